-- The legs of a walk, each of which is taken in one step.
use Rattle.std.specs.Prelude.{ℕ, ◌-◌, ◌<◌, pos, List, [], ◌∷◌, ◌++◌, length, slice_index_or}
use Rattle.std.specs.List.{AllAdjacentBelow}
use Rattle.span_set.specs.declared.set.Span.{Span}
use Rattle.span_set.specs.Changes.{span}
use Rattle.channel_path.specs.declared.moves.Move.{Move}
use Rattle.channel_path.specs.declared.moves.Move.TheVariants.{Letter, Gap}

-- both are gaps, and the second begins after the end of the first
abbrev pub AreApart : Move → Move → Type 0
AreApart (Letter at l r) y = ⊥
AreApart (Gap f t) (Letter at l r) = ⊥
AreApart (Gap f t) (Gap g u) = t < g

-- at most one move, or gaps none of which touches the next
abbrev pub IsLeg : List Move → Type 0
IsLeg xs = AllAdjacentBelow AreApart xs (length xs)

-- the moves before and after the place don't go into one leg
abbrev pub AreParted : List Move → ℕ → Type 0
AreParted xs n = (d : Move) → AreApart (slice_index_or xs (n - 1) d) (slice_index_or xs n d) → ⊥

abbrev pub IsGap : Move → Type 0
IsGap (Letter at l r) = ⊥
IsGap (Gap f t) = Unit {0}

abbrev pub AreGaps : List Move → Type 0
AreGaps xs = (k : ℕ) (d : Move) → k < length xs → IsGap (slice_index_or xs k d)

-- the holes with that of one more move, if it is a gap
abbrev pub with_hole : Move → List Span → List Span
with_hole (Letter at l r) hs = hs
with_hole (Gap f t) hs = hs ++ span (pos f) (pos t) ∷ []
