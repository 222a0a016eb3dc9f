-- Letters at tenths of a gap, one after another, from one state to another.
use Rattle.std.specs.Prelude.{◌≡◌, ℕ, ◌≤◌, ℤ, negsuc, ◌^◌, ◌≤ℤ◌, ◌<ℤ◌, List, [], ◌∷◌, ◌++◌, length, reverse}
use Rattle.span_set.specs.declared.set.Span.{Span}
use Rattle.colour_machine.specs.Rules.{Rules}
use Rattle.reach.specs.Runs.{State, state, Step, Fills}
use Rattle.reach.specs.Past.{Holds}
use Rattle.gap_ways.specs.declared.states.Fill.{Fill}
use Rattle.gap_ways.specs.declared.states.Entered.{Entered}

abbrev pub state_of : Entered → State
state_of e = state e.colour e.entry

-- the fills, none before the one in front of it and all at tenths from f up to t, are legal from state s and lead to state u
abbrev pub Way : Rules → ℤ → ℤ → State → List Fill → State → Type 0
Way m f t s [] u = u ≡ s
Way m f t s (x ∷ xs) u = (f ≤ℤ x.at) × (x.at <ℤ t) × ((v : State) × Step m x.at s x.letter v × Way m x.at t v xs u)

-- each state of the sets is entered at - 2 ^ 39 - 1 or later
abbrev pub NoneOlder : List (List Span) → Type 0
NoneOlder sets = (s : State) → Holds sets s → negsuc (2 ^ 39) ≤ℤ s.entry

-- some legal lists for the tenths from f up to t lead to the state from one of the sets that is entered before f
abbrev pub AfterEarly : Rules → List (List Span) → ℤ → ℤ → State → Type 0
AfterEarly m sets f t u = (s : State) × Holds sets s × (s.entry <ℤ f) × Fills m f t s u

-- the state is one of the sets and entered before f
abbrev pub IsEarly : List (List Span) → ℤ → Entered → Type 0
IsEarly sets f s = Holds sets (state_of s) × (s.entry <ℤ f)

-- what was added to the fills, last first, leads from state s to state u by a way from tenth f on up to t, with at most n fills
abbrev pub Added : Rules → ℤ → ℤ → ℕ → List Fill → List Fill → Entered → Entered → Type 0
Added m f t n old new s u = (gs : List Fill) × (new ≡ old ++ gs) × (length gs ≤ n) × Way m f t (state_of s) (reverse gs) (state_of u)

-- the state is one of the sets, and the letter at the tenth leads from it to state u
abbrev pub IsSource : Rules → List (List Span) → ℤ → ℕ → State → Entered → Type 0
IsSource m sets t l u s = Holds sets (state_of s) × Step m t (state_of s) l u
