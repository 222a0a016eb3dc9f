-- A machine of colours: which letter is legal in which colour, and where it leads.
use Rattle.std.specs.Prelude.{◌≡◌, ◌≢◌, ◌⊎◌, ℕ, ◌<◌, ◌≤◌, Option, Some, List, [], ◌∷◌}
use Rattle.colour_machine.specs.Mask.{Has}

-- what a machine is: colours from 0, letters from 0, the colour that a letter leads to where it is legal, and the least age, in tenths of a second, at which a colour may be left
pub record Rules : Type 0 where
  pub colours : ℕ
  pub letters : ℕ
  pub next : ℕ → ℕ → Option ℕ
  pub floor : ℕ → ℕ

-- the laws of a machine
pub record IsMachine (m : Rules) : Type 0 where
  pub some_colour : 1 ≤ m.colours
  pub few_colours : m.colours ≤ 16
  pub few_letters : m.letters ≤ 32
  pub stays : (c l d : ℕ) → c < m.colours → l < m.letters → m.next c l ≡ Some d → d < m.colours
  pub low_floor : (c : ℕ) → c < m.colours → m.floor c ≤ 36000

-- the letter is legal in colour c and leads to colour d
abbrev pub Goes : Rules → ℕ → ℕ → ℕ → Type 0
Goes m c l d = (c < m.colours) × (l < m.letters) × (m.next c l ≡ Some d)

-- some letter changes colour c to colour d
abbrev pub Change : Rules → ℕ → ℕ → Type 0
Change m c d = (l : ℕ) × Goes m c l d × (d ≢ c)

-- the letters, one after another, are legal from colour c and lead to colour d
abbrev pub Leads : Rules → ℕ → List ℕ → ℕ → Type 0
Leads m c [] d = c ≡ d
Leads m c (l ∷ ls) d = (x : ℕ) × Goes m c l x × Leads m x ls d

-- one of the letters, one after another from colour c, changes the colour
abbrev pub Changes : Rules → ℕ → List ℕ → Type 0
Changes m c [] = ⊥
Changes m c (l ∷ ls) = (x : ℕ) × Goes m c l x × ((x ≢ c) ⊎ Changes m x ls)

-- letters with at least one change lead to colour d from a colour of the mask
abbrev pub IsReached : Rules → ℕ → ℕ → Type 0
IsReached m mask d = (c : ℕ) × Has mask c × ((ls : List ℕ) × Leads m c ls d × Changes m c ls)

-- each colour of the mask is one of the machine's
abbrev pub AreColours : Rules → ℕ → Type 0
AreColours m mask = (c : ℕ) → Has mask c → c < m.colours
