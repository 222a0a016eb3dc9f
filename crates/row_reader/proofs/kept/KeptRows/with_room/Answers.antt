use Rattle.row_reader.proofs.kept.KeptRows.with_room.Goals as goal

pub invariant_of-result : goal.invariant_of-result
invariant_of-result c = rw c.in_ok-rows.ensures.items c.none.ensures
