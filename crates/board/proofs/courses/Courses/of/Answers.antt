use Rattle.board.proofs.courses.Courses.of.Goals as goal

pub invariant_of-result : goal.invariant_of-result
invariant_of-result c = rw (c.of.ensures, c.of-2.ensures, c.of-3.ensures) c.in_ok-list.ensures
