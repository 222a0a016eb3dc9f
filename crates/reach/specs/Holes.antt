-- A run of holes: known stretches, in which no letter stands, and between them holes, in which any letters may.
use Rattle.std.specs.Prelude.{◌≡◌, ◌⊎◌, ◌↔◌, ℕ, ◌<◌, ◌≤◌, ℤ, pos, ◌+ℤ◌, ◌≤ℤ◌, ◌<ℤ◌, List, [], ◌∷◌, length, slice_index_or}
use Rattle.span_set.specs.declared.set.Span.{Span}
use Rattle.span_set.specs.Spans.{Member, AreRanges}
use Rattle.colour_machine.specs.Rules.{Rules}
use Rattle.reach.specs.Runs.{State, state, Steps, Run, Fills}
use Rattle.reach.specs.Past.{Holds}
use Rattle.reach.specs.Leaving.{HasOld}
use Rattle.reach.specs.Sets.{at}

-- the holes are ranges in order, and all their tenths lie from f up to t
abbrev pub AreHoles : ℤ → ℤ → List Span → Type 0
AreHoles f t hs = AreRanges hs × ((y : ℤ) → Member hs y → (f ≤ℤ y) × (y <ℤ t))

-- the holes are ranges in order, and none of their tenths lies before f
abbrev pub AreFrom : ℤ → List Span → Type 0
AreFrom f hs = AreRanges hs × ((y : ℤ) → Member hs y → f ≤ℤ y)

-- the lists, placed at the tenths t, t + 1 and so on, have letters only in the holes
abbrev pub OnlyIn : List Span → ℤ → List (List ℕ) → Type 0
OnlyIn hs t [] = Unit {0}
OnlyIn hs t (ls ∷ rest) = (Member hs t ⊎ (ls ≡ [])) × OnlyIn hs (t +ℤ pos 1) rest

-- some legal lists for the tenths from f up to t, with letters only in the holes, lead from state s to state u
abbrev pub FillsIn : Rules → List Span → ℤ → ℤ → State → State → Type 0
FillsIn m hs f t s u = (lists : List (List ℕ)) × ((f +ℤ pos (length lists)) ≡ t) × OnlyIn hs f lists × Run m f s lists u

-- they lead to the state from one that is held
abbrev pub AfterHoles : Rules → List (List Span) → List Span → ℤ → ℤ → State → Type 0
AfterHoles m sets hs f t u = (s : State) × Holds sets s × FillsIn m hs f t s u

-- the holes as gaps, one after another
abbrev pub Gaps : Rules → List Span → State → State → Type 0
Gaps m [] s u = u ≡ s
Gaps m (h ∷ hs) s u = (v : State) × Fills m h.from h.to s v × Gaps m hs v u

abbrev pub AfterGaps : Rules → List (List Span) → List Span → State → Type 0
AfterGaps m sets hs u = (s : State) × Holds sets s × Gaps m hs s u

-- what letters in the holes lead to is what the gaps lead to, one after another
abbrev pub HolesAreGaps : Type 0
HolesAreGaps = (m : Rules) (sets : List (List Span)) (hs : List Span) (f t : ℤ) → AreHoles f t hs → f ≤ℤ t → (u : State) → AfterHoles m sets hs f t u ↔ AfterGaps m sets hs u

-- the least tenth of the holes from y on, or the end t
abbrev pub IsNext : List Span → ℤ → ℤ → ℤ → Type 0
IsNext hs t y x = (x ≤ℤ t) × ((z : ℤ) → Member hs z → y ≤ℤ z → x ≤ℤ z) × (x <ℤ t → Member hs x × (y ≤ℤ x))

-- the least tenth of the holes at which an entry of the set is old enough, or the end t
abbrev pub IsFirstIn : List Span → ℕ → List Span → ℤ → ℤ → ℤ → Type 0
IsFirstIn set floor hs f t x = ((e y : ℤ) → Member set e → Member hs y → (e +ℤ pos floor) ≤ℤ y → x ≤ℤ y) × (f ≤ℤ x) × (x ≤ℤ t) × (x <ℤ t → Member hs x × HasOld set floor x)

-- when a colour may be left: the earlier of the departure from the old entries and the first hole that is a floor after an arrival
abbrev pub IsLeaveIn : List Span → ℤ → ℤ → ℕ → ℤ → Type 0
IsLeaveIn hs dep arrival floor x = (x ≤ℤ dep) × ((y : ℤ) → Member hs y → (arrival +ℤ pos floor) ≤ℤ y → x ≤ℤ y) × ((x ≡ dep) ⊎ (Member hs x × ((arrival +ℤ pos floor) ≤ℤ x)))

-- the state stands within tenth y, after some letters of that tenth
abbrev pub StandsAt : Rules → List Span → ℤ → ℤ → State → State → Type 0
StandsAt m hs f y s u = (v : State) × FillsIn m hs f y s v × ((ls : List ℕ) × Steps m y v ls u)

-- the tenth is one of the holes, and from it on the colour may be entered at each of them
abbrev pub EntersFrom : Rules → List (List Span) → List Span → ℤ → ℕ → ℤ → Type 0
EntersFrom m sets hs f d x = Member hs x × ((y : ℤ) → x ≤ℤ y → Member hs y → (s : State) × Holds sets s × StandsAt m hs f y s (state d y))

-- tenths from f to t, from which on the colours may be entered in the holes; the end t is none
abbrev pub AreEntered : Rules → List (List Span) → List Span → ℤ → ℤ → List ℤ → Type 0
AreEntered m sets hs f t a = (length a ≡ 16) × ((d : ℕ) → d < 16 → (f ≤ℤ at a d) × (at a d ≤ℤ t) × (m.colours ≤ d → at a d ≡ t)) × ((d : ℕ) → d < 16 → at a d <ℤ t → EntersFrom m sets hs f d (at a d))

-- the state is one that was held, or it was entered in a hole from its colour's arrival on and before x
abbrev pub HeldOrEntered : List (List Span) → List Span → ℤ → List ℤ → ℤ → State → Type 0
HeldOrEntered sets hs t a x u = Holds sets u ⊎ ((slice_index_or a u.colour t ≤ℤ u.entry) × Member hs u.entry × (u.entry <ℤ x))

-- the earliest arrivals of a run of holes: they tell the states at each place x of the run
abbrev pub AreEarliest : Rules → List (List Span) → List Span → ℤ → ℤ → List ℤ → Type 0
AreEarliest m sets hs f t a = (u : State) (x : ℤ) → f ≤ℤ x → x ≤ℤ t → AfterHoles m sets hs f x u ↔ HeldOrEntered sets hs t a x u

-- each of the first n sets with the tenths of the holes from its start on
abbrev pub AreFilled : List (List Span) → List ℤ → List Span → List (List Span) → ℕ → Type 0
AreFilled old starts hs new n = (length new ≡ length old) × ((c : ℕ) → c < n → (e : ℤ) → Member (slice_index_or new c []) e ↔ (Member (slice_index_or old c []) e ⊎ ((at starts c ≤ℤ e) × Member hs e)))

-- arrivals lie from f to t, and a colour that the machine doesn't have has none
abbrev pub AreBounded : ℕ → ℤ → ℤ → List ℤ → Type 0
AreBounded n f t a = (length a ≡ 16) × ((d : ℕ) → d < 16 → (f ≤ℤ at a d) × (at a d ≤ℤ t) × (n ≤ d → at a d ≡ t))
