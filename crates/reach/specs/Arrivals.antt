-- Earliest arrivals of a gap, and how changes make them earlier.
use Rattle.std.specs.Prelude.{◌≡◌, ◌≢◌, ◌⊎◌, ℕ, ◌<◌, ◌≤◌, ℤ, pos, ◌+ℤ◌, ◌≤ℤ◌, ◌<ℤ◌, List, length, slice_index_or, ◌↔◌}
use Rattle.span_set.specs.declared.set.Span.{Span}
use Rattle.span_set.specs.Spans.{Member}
use Rattle.colour_machine.specs.Rules.{Rules, Goes}
use Rattle.reach.specs.Past.{Holds, AfterGap}
use Rattle.reach.specs.Leaving.{HasOld}
use Rattle.reach.specs.Sets.{at, set_of}
use Rattle.reach.specs.Runs.{State, state, Steps, Fills}

-- colour c is left at tenth x by a letter, for colour d
abbrev pub ByLetter : Rules → ℕ → ℕ → ℤ → ℕ → ℤ → Type 0
ByLetter m c l x d y = Goes m c l d × (d ≢ c) × (y ≡ x)

abbrev pub ByLetters : Rules → ℕ → ℕ → ℤ → ℕ → ℤ → Type 0
ByLetters m c k x d y = (l : ℕ) × (l < k) × ByLetter m c l x d y

abbrev pub ByColours : Rules → ℕ → List ℤ → ℕ → ℤ → Type 0
ByColours m k leave d y = (c : ℕ) × (c < k) × ByLetters m c m.letters (at leave c) d y

-- each tenth of b is the least of the one of a and of those that C has
abbrev pub IsLowered : List ℤ → List ℤ → (ℕ → ℤ → Type 0) → Type 0
IsLowered a b C = (length b ≡ 16) × ((d : ℕ) → d < 16 → (at b d ≤ℤ at a d) × ((x : ℤ) → C d x → at b d ≤ℤ x) × ((at b d ≡ at a d) ⊎ C d (at b d)))

-- the least tenth from f on at which an entry of the set is old enough, or the end t
abbrev pub IsFirst : List Span → ℕ → ℤ → ℤ → ℤ → Type 0
IsFirst set floor f t x = ((e y : ℤ) → Member set e → f ≤ℤ y → (e +ℤ pos floor) ≤ℤ y → y <ℤ t → x ≤ℤ y) × (f ≤ℤ x) × (x ≤ℤ t) × (x <ℤ t → HasOld set floor x)

-- for each colour the first tenth from f on at which an entry of its set is old enough to leave it, or the end t
abbrev pub AreDepartures : Rules → List (List Span) → ℤ → ℤ → List ℤ → Type 0
AreDepartures m sets f t dep = (c : ℕ) → c < m.colours → IsFirst (set_of sets c) (m.floor c) f t (at dep c)

-- when a colour may be left: the earlier of the departure from the old entries and the one after an arrival
abbrev pub IsLeave : ℤ → ℤ → ℕ → ℤ → Type 0
IsLeave dep arrival floor x = (x ≤ℤ dep) × (x ≤ℤ (arrival +ℤ pos floor)) × ((x ≡ dep) ⊎ (x ≡ (arrival +ℤ pos floor)))

-- the state stands within tenth t, after some letters of that tenth
abbrev pub StandsIn : Rules → ℤ → ℤ → State → State → Type 0
StandsIn m f t s u = (v : State) × Fills m f t s v × ((ls : List ℕ) × Steps m t v ls u)

-- an arrival: the colour may be entered at the tenth
abbrev pub Arrives : Rules → List (List Span) → ℤ → ℕ → ℤ → Type 0
Arrives m sets f d t = (s : State) × Holds sets s × StandsIn m f t s (state d t)

-- from tenth x on the colour may be entered at each tenth up to the end
abbrev pub ArrivesFrom : Rules → List (List Span) → ℤ → ℤ → ℕ → ℤ → Type 0
ArrivesFrom m sets f t d x = (f ≤ℤ x) × ((y : ℤ) → x ≤ℤ y → y <ℤ t → Arrives m sets f d y)

-- tenths from f to t, at which the colours may be entered from then on; the end t is none
abbrev pub AreArrivals : Rules → List (List Span) → ℤ → ℤ → List ℤ → Type 0
AreArrivals m sets f t a = (length a ≡ 16) × ((d : ℕ) → d < 16 → (f ≤ℤ at a d) × (at a d ≤ℤ t) × (m.colours ≤ d → at a d ≡ t)) × ((d : ℕ) → d < 16 → at a d <ℤ t → ArrivesFrom m sets f t d (at a d))

-- the earliest arrivals: from them on, and from no earlier tenth, the colours may be entered up to the end
abbrev pub IsArrival : Rules → List (List Span) → ℤ → ℤ → List ℤ → Type 0
IsArrival m sets f t a = AreArrivals m sets f t a × ((u : State) → AfterGap m sets f t u ↔ (Holds sets u ⊎ ((slice_index_or a u.colour t ≤ℤ u.entry) × (u.entry <ℤ t))))
