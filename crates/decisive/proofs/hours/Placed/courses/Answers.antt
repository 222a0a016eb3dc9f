use Rattle.decisive.proofs.hours.Placed.courses.Goals as goal

pub returns : goal.returns
returns c = rw (c.deref.ensures.value, c.deref-2.ensures.value) at c.courses_of.ensures
