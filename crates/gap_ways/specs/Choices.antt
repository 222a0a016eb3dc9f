-- States that answer a test.
use Rattle.std.specs.Prelude.{◌↔◌, ℕ, ℤ, ◌≤ℤ◌, List, Option, Bool, true, false}
use Rattle.span_set.specs.declared.set.Span.{Span}
use Rattle.reach.specs.Runs.{State, state}
use Rattle.reach.specs.Tests.{IsPossible, InBound, Meets}
use Rattle.reach.specs.declared.seen.AgeBound.{AgeBound}
use Rattle.reach.specs.declared.seen.Test.{Test}

-- the state meets the test, or doesn't, as is asked
abbrev pub Answers : Bool → Test → State → Type 0
Answers true test s = Meets test s
Answers false test s = Meets test s → ⊥

-- the state is possible at the test's tenth and answers as is asked
abbrev pub IsAnswer : List (List Span) → List (Option ℤ) → Bool → Test → State → Type 0
IsAnswer sets latest met test s = IsPossible sets latest test.at s × Answers met test s

-- an entry of the colour by the test's tenth answers the first test as is asked
abbrev pub EntryAnswers : Bool → Test → ℕ → ℤ → Type 0
EntryAnswers met test c e = (e ≤ℤ test.at) × Answers met test (state c e)

-- the second test is met by exactly the entries of the colour that answer the first as is asked
abbrev pub IsAsked : Bool → Test → ℕ → Test → Type 0
IsAsked met test c asked = (e : ℤ) → ((e ≤ℤ asked.at) × InBound asked.bound asked.at e) ↔ EntryAnswers met test c e

-- the age at the tenth of what was entered at e, by then, is outside the bound
abbrev pub IsOutside : AgeBound → ℤ → ℤ → Type 0
IsOutside bound t e = (e ≤ℤ t) × (InBound bound t e → ⊥)
