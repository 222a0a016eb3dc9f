use Rattle.std.proofs.Common.{◌≡◌, ℕ, length, get_or, []}
use Rattle.board.proofs.courses.empty.Given as goal

abbrev pub invariant-loop-course : goal.invariant-loop-course
invariant-loop-course l = (length l.courses.items ≡ l._course) × ((i : ℕ) → get_or l.courses.items i [] ≡ [])
