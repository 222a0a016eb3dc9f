-- A run of holes backward: the last hole at which a colour can be left so that the rest can be met.
use Rattle.std.specs.Prelude.{◌≡◌, ◌≢◌, ◌⊎◌, ◌↔◌, ℕ, ◌<◌, ◌≤◌, ℤ, pos, ◌+ℤ◌, ◌≤ℤ◌, List, Option, Some, None, length}
use Rattle.span_set.specs.declared.set.Span.{Span}
use Rattle.span_set.specs.Spans.{Member}
use Rattle.colour_machine.specs.Rules.{Rules, Goes, Change}
use Rattle.reach.specs.Runs.{State, state, Steps}
use Rattle.reach.specs.Ahead.{NotLater, Admits}
use Rattle.reach.specs.Latest.{entry_of}
use Rattle.reach.specs.Holes.{AreHoles, FillsIn, Gaps, AfterHoles, AfterGaps}

-- letters in the holes from x up to t lead from the state to one that is admitted
abbrev pub BeforeHoles : Rules → List (Option ℤ) → List Span → ℤ → ℤ → State → Type 0
BeforeHoles m latest hs x t s = (u : State) × FillsIn m hs x t s u × Admits latest u

-- the tenth, where there is one, is one of the holes
abbrev pub InHoles : List Span → Option ℤ → Type 0
InHoles hs None = Unit {0}
InHoles hs (Some x) = Member hs x

-- the last tenth of the holes that is not later than the limit, if any
abbrev pub IsPrev : List Span → Option ℤ → Option ℤ → Type 0
IsPrev hs limit x = InHoles hs x × ((z : ℤ) → Member hs z → NotLater x z ↔ NotLater limit z)

-- at tenth y the letter changes colour c to one from which the rest can be met: it may stay, or be left a floor later
abbrev pub LeftIn : Rules → List (Option ℤ) → List (Option ℤ) → ℕ → ℕ → ℤ → Type 0
LeftIn m latest last c l y = (d : ℕ) × Goes m c l d × (d ≢ c) × (NotLater (entry_of latest d) y ⊎ NotLater (entry_of last d) (y +ℤ pos (m.floor d)))

abbrev pub LeftInBelow : Rules → List (Option ℤ) → List (Option ℤ) → ℕ → ℕ → ℤ → Type 0
LeftInBelow m latest last c k y = (l : ℕ) × (l < k) × LeftIn m latest last c l y

-- one colour's part of a round: the last hole of before, or the last one for a change, whichever is later
abbrev pub IsLaterIn : Rules → List (Option ℤ) → List Span → List (Option ℤ) → ℕ → ℕ → Option ℤ → Type 0
IsLaterIn m latest hs last c k x = InHoles hs x × ((y : ℤ) → Member hs y → NotLater x y ↔ (NotLater (entry_of last c) y ⊎ LeftInBelow m latest last c k y))

abbrev pub IsRoundIn : Rules → List (Option ℤ) → List Span → List (Option ℤ) → List (Option ℤ) → Type 0
IsRoundIn m latest hs a b = (length b ≡ 16) × ((c : ℕ) → c < m.colours → IsLaterIn m latest hs a c m.letters (entry_of b c)) × ((c : ℕ) → m.colours ≤ c → entry_of b c ≡ None)

-- at tenth y, after some of its letters, the rest can be met
abbrev pub Continues : Rules → List (Option ℤ) → List Span → ℤ → ℤ → State → Type 0
Continues m latest hs y t s = (v : State) × ((ls : List ℕ) × Steps m y s ls v) × BeforeHoles m latest hs (y +ℤ pos 1) t v

-- what the rounds keep: tenths of the holes, and at each hole up to a colour's it can be left so that the rest can be met
abbrev pub AreLasts : Rules → List (Option ℤ) → List Span → ℤ → List (Option ℤ) → Type 0
AreLasts m latest hs t a = (length a ≡ 16) × ((c : ℕ) → m.colours ≤ c → entry_of a c ≡ None) × ((c : ℕ) → InHoles hs (entry_of a c)) × ((c : ℕ) (y : ℤ) → Member hs y → NotLater (entry_of a c) y → (d : ℕ) × Change m c d × Continues m latest hs y t (state d y))

-- the state may stay up to the end of the run, or it can be left at its colour's last hole
abbrev pub StaysOrLeaves : Rules → List (Option ℤ) → List (Option ℤ) → ℤ → State → Type 0
StaysOrLeaves m latest last x s = Admits latest s ⊎ (NotLater (entry_of last s.colour) x × NotLater (entry_of last s.colour) (s.entry +ℤ pos (m.floor s.colour)))

-- the last holes of a run: they tell from which states it can be met at each place x of the run
abbrev pub AreLast : Rules → List (Option ℤ) → List Span → ℤ → ℤ → List (Option ℤ) → Type 0
AreLast m latest hs f t last = (s : State) (x : ℤ) → f ≤ℤ x → x ≤ℤ t → BeforeHoles m latest hs x t s ↔ StaysOrLeaves m latest last x s

-- the latest entry of a colour at place x of the run, by that after it and by the colour's last hole
abbrev pub IsEntryAt : ℕ → Option ℤ → Option ℤ → ℤ → Option ℤ → Type 0
IsEntryAt floor latest last x new = (e : ℤ) → NotLater new e ↔ (NotLater latest e ⊎ (NotLater last x × NotLater last (e +ℤ pos floor)))

-- so for each of the first n colours, and the others as they were
abbrev pub AreEntriesAt : Rules → List (Option ℤ) → List (Option ℤ) → ℤ → List (Option ℤ) → ℕ → Type 0
AreEntriesAt m latest last x new n = (length new ≡ 16) × ((c : ℕ) → c < n → IsEntryAt (m.floor c) (entry_of latest c) (entry_of last c) x (entry_of new c)) × ((c : ℕ) → n ≤ c → entry_of new c ≡ entry_of latest c)

-- the holes as gaps, one after another, lead from the state to one that is admitted
abbrev pub BeforeGaps : Rules → List (Option ℤ) → List Span → State → Type 0
BeforeGaps m latest hs s = (u : State) × Gaps m hs s u × Admits latest u

-- up to a place letters in the holes lead to what the holes up to it lead to as gaps, and from the place on so with those after it; the place may lie within a hole
abbrev pub PlacesAreGaps : Type 0
PlacesAreGaps = (m : Rules) (sets : List (List Span)) (latest : List (Option ℤ)) (hs gs ks : List Span) (f x t : ℤ) → AreHoles f x gs → AreHoles x t ks → f ≤ℤ x → x ≤ℤ t → ((y : ℤ) → Member hs y ↔ (Member gs y ⊎ Member ks y)) → ((u : State) → AfterHoles m sets hs f x u ↔ AfterGaps m sets gs u) × ((s : State) → BeforeHoles m latest hs x t s ↔ BeforeGaps m latest ks s)
