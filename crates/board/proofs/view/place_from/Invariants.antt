use Rattle.std.proofs.Common.{ℕ, ◌≤◌, length}
use Rattle.board.proofs.view.place_from.Given as goal
use Rattle.board.specs.Places.{IsSplit}

abbrev pub invariant-loop-place : goal.invariant-loop-place
invariant-loop-place l = (j : ℕ) → IsSplit l.at l.index l.moves j → (l.place ≤ j) × (j ≤ length l.moves)
