-- The possible states of one machine, as a set of entries for each colour.
use Rattle.std.specs.Prelude.{◌≡◌, ◌⊎◌, ℕ, ℤ, ◌≤ℤ◌, ◌<ℤ◌, List, [], length, slice_index_or, ◌↔◌}
use Rattle.span_set.specs.declared.set.Span.{Span}
use Rattle.span_set.specs.Spans.{Member}
use Rattle.colour_machine.specs.Rules.{Rules}
use Rattle.reach.specs.Runs.{State, Step, Fills}

-- the state is among those of these sets: its entry is in the set of its colour
abbrev pub Holds : List (List Span) → State → Type 0
Holds sets s = Member (slice_index_or sets s.colour []) s.entry

-- no two states are held
abbrev pub IsAlone : List (List Span) → Type 0
IsAlone sets = (s u : State) → Holds sets s → Holds sets u → s ≡ u

-- no state's entry is later than the tenth
abbrev pub NoneLater : List (List Span) → ℤ → Type 0
NoneLater sets t = (s : State) → Holds sets s → s.entry ≤ℤ t

-- the letter at the tenth leads to the state from one that is held
abbrev pub AfterRow : Rules → List (List Span) → ℤ → ℕ → State → Type 0
AfterRow m sets t l u = (s : State) × Holds sets s × Step m t s l u

-- some legal lists for the tenths from f up to t lead to the state from one that is held
abbrev pub AfterGap : Rules → List (List Span) → ℤ → ℤ → State → Type 0
AfterGap m sets f t u = (s : State) × Holds sets s × Fills m f t s u

-- each entry below the limit has become the limit, and all others are as before
abbrev pub AreClamped : ℤ → List (List Span) → List (List Span) → Type 0
AreClamped limit old new = (length new ≡ length old) × ((c : ℕ) (e : ℤ) → Member (slice_index_or new c []) e ↔ ((Member (slice_index_or old c []) e × (limit ≤ℤ e)) ⊎ ((e ≡ limit) × ((x : ℤ) × Member (slice_index_or old c []) x × (x <ℤ limit)))))
