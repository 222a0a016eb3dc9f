-- Walks that are cut in two: at a line, or at the point between two hours.
use Rattle.std.specs.Prelude.{◌≡◌, ℕ, ◌+◌, List, [], ◌∷◌, Option, ℤ}
use Rattle.span_set.specs.declared.set.Span.{Span}
use Rattle.colour_machine.specs.Rules.{Rules}
use Rattle.reach.specs.Runs.{State}
use Rattle.reach.specs.Past.{Holds}
use Rattle.reach.specs.Ahead.{Admits}
use Rattle.channel_path.specs.declared.moves.Move.{Move}
use Rattle.lost_rows.specs.declared.asked.Asked.{Asked}
use Rattle.lost_rows.specs.Walks.{still_after, WalkedFrom, WalkedTo}
use Rattle.lost_rows.specs.Decisions.{Passed}

-- the still behind the moves begins at this tenth, where that before the first of them begins at a
abbrev pub last_still : ℕ → List Move → ℕ
last_still a [] = a
last_still a (x ∷ xs) = last_still (still_after x) xs

-- the states of the sets, before which no row was lost
abbrev pub NoneBefore : List (List Span) → ℕ → State → Type 0
NoneBefore sets j s = (j ≡ 0) × Holds sets s

-- the states that are admitted, after which no row is lost
abbrev pub NoneAfter : List (Option ℤ) → ℕ → State → Type 0
NoneAfter latest j s = (j ≡ 0) × Admits latest s

-- n lost rows explain a line between the moves, where these states come before the first of them and those can go on after the last, each with so many rows lost there already
abbrev pub ExplainedFrom : Rules → Asked → (ℕ → State → Type 0) → (ℕ → State → Type 0) → ℕ → List Move → ℕ → List Move → ℕ → (State → Type 0) → ℕ → Type 0
ExplainedFrom m r P Q low xs at ys high Keeps n = Passed (λ i v. WalkedFrom m r P low xs (at + 1) i v) (λ k v. WalkedTo m Q (at + 1) ys high k v) Keeps n
