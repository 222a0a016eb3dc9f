-- Counts, kept as how much more each is than the one before it.
use Rattle.std.specs.Prelude.{◌≡◌, ℕ, ◌+◌, ◌%◌, ◌^◌, ◌<◌, Bool, if◌then◌else◌, List, length, take, sum}

abbrev pub one_if : Bool → ℕ
one_if b = if b then 1 else 0

-- up to multiples of 2 ^ 64, the steps up to each place add up to f there
pub record AreSteps (f : ℕ → ℕ) (steps : List ℕ) : Type 0 where
  pub add_up : (j : ℕ) → j < length steps → sum (take (j + 1) steps) % 2 ^ 64 ≡ f j % 2 ^ 64
