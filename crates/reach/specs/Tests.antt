-- Tests of a state at a tenth, and what is possible.
use Rattle.std.specs.Prelude.{◌↔◌, ℕ, ℤ, pos, ◌+ℤ◌, ◌≤ℤ◌, List, Option, IsTrue}
use Rattle.span_set.specs.declared.set.Span.{Span}
use Rattle.span_set.specs.Spans.{Member}
use Rattle.colour_machine.specs.Mask.{Has}
use Rattle.reach.specs.declared.seen.AgeBound.{AgeBound}
use Rattle.reach.specs.declared.seen.AgeBound.TheVariants.{Any, AtLeast, AtMost}
use Rattle.reach.specs.declared.seen.Test.{Test}
use Rattle.reach.specs.declared.seen.Seen.{Seen}
use Rattle.reach.specs.Runs.{State}
use Rattle.reach.specs.Past.{Holds}
use Rattle.reach.specs.Ahead.{NotLater, Admits}

-- the age at tenth t of what was entered at e meets the bound
abbrev pub InBound : AgeBound → ℤ → ℤ → Type 0
InBound Any t e = Unit {0}
InBound (AtLeast n) t e = (e +ℤ pos n) ≤ℤ t
InBound (AtMost n) t e = t ≤ℤ (e +ℤ pos n)

-- the state meets the test
abbrev pub Meets : Test → State → Type 0
Meets test s = Has test.colours s.colour × InBound test.bound test.at s.entry

-- the state is held, its entry isn't later than the tenth, and it can still be completed
abbrev pub IsPossible : List (List Span) → List (Option ℤ) → ℤ → State → Type 0
IsPossible sets latest t s = Holds sets s × (s.entry ≤ℤ t) × Admits latest s

-- whether some possible state meets the test, and whether some doesn't
pub record Sees (sets : List (List Span)) (latest : List (Option ℤ)) (test : Test) (seen : Seen) : Type 0 where
  pub some_true : IsTrue seen.some_true ↔ ((s : State) × IsPossible sets latest test.at s × Meets test s)
  pub some_false : IsTrue seen.some_false ↔ ((s : State) × IsPossible sets latest test.at s × (Meets test s → ⊥))

-- some possible entry of the colour meets the test
abbrev pub SeenTrue : List Span → Option ℤ → ℕ → Test → Type 0
SeenTrue set latest colour test = (e : ℤ) × Member set e × (e ≤ℤ test.at) × NotLater latest e × (Has test.colours colour × InBound test.bound test.at e)

-- some possible entry of the colour doesn't meet it
abbrev pub SeenFalse : List Span → Option ℤ → ℕ → Test → Type 0
SeenFalse set latest colour test = (e : ℤ) × Member set e × (e ≤ℤ test.at) × NotLater latest e × ((Has test.colours colour × InBound test.bound test.at e) → ⊥)
