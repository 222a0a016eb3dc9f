-- The rounds that find the changes of colour in a gap.
use Rattle.std.specs.Prelude.{◌≡◌, ◌⊎◌, ℕ, ◌<◌, ℤ, ◌≤ℤ◌, ◌<ℤ◌, List, [], ◌∷◌}
use Rattle.span_set.specs.declared.set.Span.{Span}
use Rattle.colour_machine.specs.Rules.{Rules, Goes, Change}
use Rattle.reach.specs.Leaving.{HasOld}
use Rattle.reach.specs.Sets.{at, set_of}
use Rattle.reach.specs.Arrivals.{IsLeave}
use Rattle.gap_ways.specs.declared.states.Entered.{Entered}
use Rattle.gap_ways.specs.declared.edges.Edge.{Edge}

-- of the first n letters none changes colour c to colour d
abbrev pub NoneOf : Rules → ℕ → ℕ → ℕ → Type 0
NoneOf m c d n = (l : ℕ) → l < n → Goes m c l d → ⊥

-- of the first n colours none that changes to colour d may be left by the tenth
abbrev pub NoEdge : Rules → List ℤ → ℕ → ℤ → ℕ → Type 0
NoEdge m leave d y n = (c : ℕ) → c < n → Change m c d → at leave c ≤ℤ y → ⊥

-- the edge's letter changes its colour, which may be left by the tenth, to colour d
pub record IsEdge (m : Rules) (leave : List ℤ) (d : ℕ) (y : ℤ) (e : Edge) : Type 0 where
  pub colour : e.colour < m.colours
  pub goes : Goes m e.colour e.letter d
  pub other : d ≡ e.colour → ⊥
  pub left : at leave e.colour ≤ℤ y

-- each arrival of a is that of b, or the tenth at which a colour may be left, by the departures or the arrivals of b
abbrev pub IsNext : Rules → List ℤ → List ℤ → List ℤ → Type 0
IsNext m dep b a = (d : ℕ) → d < 16 → (at a d ≡ at b d) ⊎ ((c : ℕ) × (x : ℤ) × (c < m.colours) × Change m c d × IsLeave (at dep c) (at b c) (m.floor c) x × (at a d ≡ x))

-- the arrivals a come after rounds, of which the last had the first of these tables, and the first began with no arrival before t
abbrev pub AreRounds : Rules → ℤ → ℤ → List ℤ → List (List ℤ) → List ℤ → Type 0
AreRounds m f t dep [] a = (d : ℕ) → d < 16 → at a d ≡ t
AreRounds m f t dep (b ∷ bs) a = ((d : ℕ) → d < 16 → (f ≤ℤ at b d) × (at b d ≤ℤ t)) × IsNext m dep b a × AreRounds m f t dep bs b

-- the arrivals come after these rounds, and the state's entry isn't before that of its colour
abbrev pub InRounds : Rules → ℤ → ℤ → List ℤ → List (List ℤ) → Entered → Type 0
InRounds m f t dep tables here = (a : List ℤ) × AreRounds m f t dep tables a × (at a here.colour ≤ℤ here.entry)

-- the state is entered in the gap, and has one of the machine's colours
pub record InGap (m : Rules) (f t : ℤ) (here : Entered) : Type 0 where
  pub colour : here.colour < m.colours
  pub late : f ≤ℤ here.entry
  pub early : here.entry <ℤ t

-- the letter at the tenth changes colour c, of which some state is old enough, to colour d
abbrev pub LeftAt : Rules → List (List Span) → ℤ → ℕ → ℕ → ℕ → Type 0
LeftAt m sets t l d c = (d ≡ c → ⊥) × Goes m c l d × HasOld (set_of sets c) (m.floor c) t

-- so for none of the first n colours
abbrev pub NoneLeft : Rules → List (List Span) → ℤ → ℕ → ℕ → ℕ → Type 0
NoneLeft m sets t l d n = (c : ℕ) → c < n → LeftAt m sets t l d c → ⊥
