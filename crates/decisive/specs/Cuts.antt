-- A channel's moves cut at a tenth or at a place.
use Rattle.std.specs.Prelude.{◌≡◌, ◌⊎◌, ℕ, ◌+◌, ◌<◌, ◌≤◌, Bool, true, false, nat_lt, List, [], ◌∷◌, ◌++◌}
use Rattle.gap_map.specs.declared.stretch.Stretch.{Stretch}
use Rattle.gap_map.specs.Stretches.{known_at}
use Rattle.channel_path.specs.declared.moves.Move.{Move}
use Rattle.channel_path.specs.declared.moves.Move.TheVariants.{Letter, Gap}

-- a letter that passes the test of its tenth and its row, or a gap that begins before tenth y
abbrev pub passes : (ℕ → ℕ → Bool) → ℕ → Move → Bool
passes test y (Letter at l r) = test at r
passes test y (Gap f t) = nat_lt f y

-- a letter before tenth y, or a gap that begins before it
abbrev pub begins_before : ℕ → Move → Bool
begins_before y m = passes (λ at r. nat_lt at y) y m

-- a letter of one of the first n rows, or a gap that begins before tenth x
abbrev pub stands_before : ℕ → ℕ → Move → Bool
stands_before n x m = passes (λ at r. nat_lt r n) x m

-- the test says this of each of the moves
abbrev pub AllAre : (Move → Bool) → Bool → List Move → Type 0
AllAre test b [] = Unit {0}
AllAre test b (m ∷ ms) = (test m ≡ b) × AllAre test b ms

-- the moves are xs and then ys, and the test tells them apart
pub record IsCutBy (test : Move → Bool) (ms xs ys : List Move) : Type 0 where
  pub whole : ms ≡ xs ++ ys
  pub first : AllAre test true xs
  pub rest : AllAre test false ys

-- what is told from tenth f on may be cut before tenth u: that is known, or the first
abbrev pub IsCutBefore : ℕ → List Stretch → ℕ → Type 0
IsCutBefore f ss u = (f ≤ u) × ((known_at ss u ≡ true) ⊎ (u ≡ f))

-- what is told up to tenth t may be cut after tenth w: that is known, or the last
abbrev pub IsCutAfter : ℕ → List Stretch → ℕ → Type 0
IsCutAfter t ss w = (w < t) × ((known_at ss w ≡ true) ⊎ (w + 1 ≡ t))
