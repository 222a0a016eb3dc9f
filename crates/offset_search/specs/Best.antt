-- The best of the counts.
use Rattle.std.specs.Prelude.{◌≡◌, ℕ, ◌≤◌, ◌<◌, List, Some, slice_get, slice_index, EachIndex}

-- the count at the shift is this one; none is greater, and each at a lesser shift is less
pub record IsBest (counts : List ℕ) (shift count : ℕ) : Type 0 where
  pub at : slice_get counts shift ≡ Some count
  pub most : EachIndex counts (λ k. slice_index counts k ≤ count)
  pub least : (k : ℕ) → k < shift → slice_index counts k < count
