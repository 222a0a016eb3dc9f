-- Which colours may be left.
use Rattle.std.specs.Prelude.{◌≡◌, ℕ, ℤ, pos, ◌+ℤ◌, ◌≤ℤ◌, List}
use Rattle.span_set.specs.declared.set.Span.{Span}
use Rattle.span_set.specs.Spans.{Member}
use Rattle.colour_machine.specs.Rules.{Rules}
use Rattle.reach.specs.Runs.{State, OldEnough}
use Rattle.reach.specs.Past.{Holds}

-- some entry of the set is old enough for the floor at tenth t
abbrev pub HasOld : List Span → ℕ → ℤ → Type 0
HasOld set floor t = (e : ℤ) × Member set e × ((e +ℤ pos floor) ≤ℤ t)

-- a state that is held may leave colour c at tenth t
abbrev pub CanLeave : Rules → List (List Span) → ℤ → ℕ → Type 0
CanLeave m sets t c = (s : State) × (s.colour ≡ c) × Holds sets s × OldEnough m t s
