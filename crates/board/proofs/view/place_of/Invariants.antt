use Rattle.std.proofs.Common.{ℕ, ◌+◌, ◌≤◌, length}
use Rattle.board.proofs.view.place_of.Given as goal
use Rattle.board.specs.Places.{IsSplit}

abbrev pub invariant-search : goal.invariant-search
invariant-search l = (l.low + l.left ≤ length l.moves) × ((j : ℕ) → IsSplit l.at l.index l.moves j → (l.low ≤ j) × (j ≤ l.low + l.left))

abbrev pub decreases-search : goal.decreases-search
decreases-search l = l.left
