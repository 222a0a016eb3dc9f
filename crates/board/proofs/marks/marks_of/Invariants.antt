use Rattle.std.proofs.Common.{◌≡◌, length}
use Rattle.board.proofs.marks.marks_of.Given as goal

abbrev pub invariant-loop-course : goal.invariant-loop-course
invariant-loop-course l = length l.marks.items ≡ l.course-index
