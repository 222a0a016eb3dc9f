-- Gaps between two letters as the holes of a run.
use Rattle.std.specs.Prelude.{◌≡◌, ◌↔◌, ℤ, pos, List, [], ◌∷◌, Option}
use Rattle.colour_machine.specs.Rules.{Rules}
use Rattle.span_set.specs.declared.set.Span.{Span}
use Rattle.reach.specs.Runs.{State}
use Rattle.reach.specs.Holes.{AfterGaps}
use Rattle.reach.specs.Last.{BeforeGaps}
use Rattle.channel_path.specs.declared.moves.Move.{Move}
use Rattle.channel_path.specs.declared.moves.Move.TheVariants.{Letter, Gap}
use Rattle.channel_path.specs.Walks.{AfterMoves, BeforeMoves}

-- the moves are gaps, and these holes are theirs
abbrev pub AreGapsOf : List Span → List Move → Type 0
AreGapsOf [] [] = Unit {0}
AreGapsOf [] (x ∷ xs) = ⊥
AreGapsOf (h ∷ hs) [] = ⊥
AreGapsOf (h ∷ hs) (Letter at l r ∷ xs) = ⊥
AreGapsOf (h ∷ hs) (Gap f t ∷ xs) = (h.from ≡ pos f) × (h.to ≡ pos t) × AreGapsOf hs xs

-- the holes lead to what the moves lead to, and so backward
abbrev pub RunsAreMoves : Type 0
RunsAreMoves = (m : Rules) (sets : List (List Span)) (latest : List (Option ℤ)) (hs : List Span) (xs : List Move) → AreGapsOf hs xs → ((u : State) → AfterGaps m sets hs u ↔ AfterMoves m sets xs u) × ((s : State) → BeforeGaps m latest hs s ↔ BeforeMoves m latest xs s)
