use Rattle.channel_path.proofs.path.Path.by.Goals as goal

pub invariant_of-result : goal.invariant_of-result
invariant_of-result g c = rw (c.of.ensures, c.of-2.ensures, c.of-3.ensures, ← c.requires.same) (rw c.as_slice.ensures.value at c.in_ok-places.ensures)
