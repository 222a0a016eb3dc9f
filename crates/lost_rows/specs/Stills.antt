-- Rows of one channel that were lost within a still: a run of known tenths in which no row of the channel stands.
use Rattle.std.specs.Prelude.{◌≡◌, ◌≢◌, ◌↔◌, ℕ, ◌<◌, zero, suc, ℤ, pos, ◌+ℤ◌, ◌≤ℤ◌, ◌<ℤ◌, List, Option, Some, None}
use Rattle.span_set.specs.declared.set.Span.{Span}
use Rattle.span_set.specs.Spans.{Member}
use Rattle.colour_machine.specs.Mask.{Has}
use Rattle.colour_machine.specs.Rules.{Rules, Change}
use Rattle.reach.specs.declared.put.Times.{Times}
use Rattle.reach.specs.Latest.{entry_of}
use Rattle.reach.specs.Sets.{set_of}
use Rattle.reach.specs.Runs.{State, Step}
use Rattle.reach.specs.Past.{Holds}
use Rattle.reach.specs.Ahead.{Admits, NotLater}
use Rattle.reach.specs.Tests.{InBound}
use Rattle.lost_rows.specs.declared.asked.Asked.{Asked}

-- a lost row that comes in this state at the tenth keeps the interval rule as a held row would: the state hasn't the rule's colour, or the colour's age meets the rule's bound
abbrev pub Spares : Asked → ℤ → State → Type 0
Spares r t s = s.colour ≡ r.colour → InBound r.bound t s.entry

-- a lost row of the channel at the tenth, one that changes the colour, leads from state s to state u, and keeps the rule
abbrev pub LostRow : Rules → Asked → ℤ → State → State → Type 0
LostRow m r t s u = (l : ℕ) × Step m t s l u × (u.colour ≢ s.colour) × Spares r t s

-- so many such rows, each at the tenth of the one before it or later, from tenth a up to but without tenth b, lead from state s to state u
abbrev pub LostRows : Rules → Asked → ℤ → ℤ → ℕ → State → State → Type 0
LostRows m r a b zero s u = u ≡ s
LostRows m r a b (suc j) s u = (t : ℤ) × (a ≤ℤ t) × (t <ℤ b) × ((v : State) × LostRow m r t s v × LostRows m r t b j v u)

-- one lost row of the still leads to the state from one that is held
abbrev pub AfterLost : Rules → Asked → ℤ → ℤ → List (List Span) → State → Type 0
AfterLost m r a b sets u = (s : State) × Holds sets s × ((t : ℤ) × (a ≤ℤ t) × (t <ℤ b) × LostRow m r t s u)

-- one lost row of the still leads from the state to one that is admitted
abbrev pub BeforeLost : Rules → Asked → ℤ → ℤ → List (Option ℤ) → State → Type 0
BeforeLost m r a b latest s = (u : State) × Admits latest u × ((t : ℤ) × (a ≤ℤ t) × (t <ℤ b) × LostRow m r t s u)

-- ---- For contracts alone

-- one lost row of the still leads from a held state of colour c to the state
abbrev pub LostFrom : Rules → Asked → ℤ → ℤ → List (List Span) → ℕ → State → Type 0
LostFrom m r a b sets c u = Change m c u.colour × ((e : ℤ) × Member (set_of sets c) e × (a ≤ℤ u.entry) × (u.entry <ℤ b) × ((e +ℤ pos (m.floor c)) ≤ℤ u.entry) × (c ≡ r.colour → InBound r.bound u.entry e))

-- so from one of the first n colours
abbrev pub LostFromBelow : Rules → Asked → ℤ → ℤ → List (List Span) → ℕ → State → Type 0
LostFromBelow m r a b sets n u = (c : ℕ) × (c < n) × LostFrom m r a b sets c u

-- the state is entered in a colour below n that the mask has, at one of these tenths
abbrev pub EntersOne : ℕ → List Span → ℕ → State → Type 0
EntersOne mask tenths n u = (u.colour < n) × Has mask u.colour × Member tenths u.entry

-- the times at which colour c may be left by a lost row of the still
pub record AreTimes (m : Rules) (r : Asked) (a b : ℤ) (c : ℕ) (w : Times) : Type 0 where
  pub from : w.from ≡ a
  pub to : w.to ≡ b
  pub floor : w.floor ≡ m.floor c
  pub bound : (t e : ℤ) → InBound w.bound t e ↔ (c ≡ r.colour → InBound r.bound t e)

-- the last tenth of the still that isn't later than the latest entry
abbrev pub IsLastIn : ℤ → ℤ → Option ℤ → Option ℤ → Type 0
IsLastIn a b latest None = (t : ℤ) → a ≤ℤ t → t <ℤ b → NotLater latest t → ⊥
IsLastIn a b latest (Some x) = (a ≤ℤ x) × (x <ℤ b) × NotLater latest x × ((t : ℤ) → a ≤ℤ t → t <ℤ b → NotLater latest t → t ≤ℤ x)

-- at a tenth of the still the colour, entered at e, may be left by a change for colour d from which the rest can be met
abbrev pub LostTo : Rules → ℤ → ℤ → List (Option ℤ) → ℕ → ℕ → ℤ → Type 0
LostTo m a b latest c d e = Change m c d × ((t : ℤ) × (a ≤ℤ t) × (t <ℤ b) × NotLater (entry_of latest d) t × ((e +ℤ pos (m.floor c)) ≤ℤ t))

-- so for one of the first n colours
abbrev pub LostToBelow : Rules → ℤ → ℤ → List (Option ℤ) → ℕ → ℕ → ℤ → Type 0
LostToBelow m a b latest n c e = (d : ℕ) × (d < n) × LostTo m a b latest c d e
