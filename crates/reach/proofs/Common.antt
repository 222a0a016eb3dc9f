-- Lemmas that several crates use.
use Rattle.std.proofs.Common.{subst, inl, inr, ◌<◌, List, [], length, ℤ, ◌≤ℤ◌, Option, Some, None, arith}
use Rattle.std.proofs.lemmas.Bool.{cases_lt}
use Rattle.std.proofs.lemmas.List.{get_or_past}
use Rattle.std.proofs.lemmas.Int.{ints}
use Rattle.span_set.specs.declared.set.Span.{Span}
use Rattle.span_set.specs.Spans.{Member}
use Rattle.reach.specs.Runs.{State}
use Rattle.reach.specs.Past.{Holds}
use Rattle.reach.specs.Ahead.{NotLater}

-- a state that is held has one of the colours
pub colour_there : (before : List (List Span)) (s : State) → Holds before s → s.colour < length before
colour_there before s h = elim (cases_lt s.colour (length before)) [
  | inl lt ↦ lt
  | inr ge ↦ absurd (let none : Member [] s.entry = subst (λ (set : List Span). Member set s.entry) (get_or_past before s.colour [] ge) h in none)
]

-- what admits a state admits those of its colour that were entered earlier
pub not_later : (x : Option ℤ) (e f : ℤ) → e ≤ℤ f → NotLater x f → NotLater x e
not_later None e f le n = n
not_later (Some x) e f le n = omega (arith, ints)
