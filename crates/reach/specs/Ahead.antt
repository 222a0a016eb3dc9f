-- Which states can still be completed, as a latest entry for each colour.
use Rattle.std.specs.Prelude.{ℕ, ℤ, ◌≤ℤ◌, List, Option, Some, None, slice_index_or}
use Rattle.colour_machine.specs.Rules.{Rules}
use Rattle.reach.specs.Runs.{State, Step, Fills}

-- the entry isn't later than the latest one; where there is none, no entry is good
abbrev pub NotLater : Option ℤ → ℤ → Type 0
NotLater None e = ⊥
NotLater (Some x) e = e ≤ℤ x

-- the state is among those that these latest entries let through: its entry isn't later than that of its colour
abbrev pub Admits : List (Option ℤ) → State → Type 0
Admits latest s = NotLater (slice_index_or latest s.colour None) s.entry

-- the letter at the tenth leads from the state to one that is admitted
abbrev pub BeforeRow : Rules → List (Option ℤ) → ℤ → ℕ → State → Type 0
BeforeRow m latest t l s = (u : State) × Step m t s l u × Admits latest u

-- some legal lists for the tenths from f up to t lead from the state to one that is admitted
abbrev pub BeforeGap : Rules → List (Option ℤ) → ℤ → ℤ → State → Type 0
BeforeGap m latest f t s = (u : State) × Fills m f t s u × Admits latest u
