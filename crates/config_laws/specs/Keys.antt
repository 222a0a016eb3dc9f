-- What stands at the keys of a table of the file.
use Rattle.std.specs.Prelude.{◌≡◌, ◌≤◌, ◌⊎◌, ℕ, pos, List, [], ◌∷◌, Option, Some, None, Contains}
use Rattle.toml.specs.Data.{Data, integer, array, table, Items, no_items, item, Members, get_member}

-- this value stands at the key
abbrev pub StandsAt : List ℕ → Members → Data → Type 0
StandsAt key ms d = get_member key ms ≡ Some d

-- nothing stands at the key
abbrev pub IsAbsent : List ℕ → Members → Type 0
IsAbsent key ms = get_member key ms ≡ None

-- each key at which something stands is one of these
abbrev pub HasOnly : List (List ℕ) → Members → Type 0
HasOnly keys ms = (key : List ℕ) (d : Data) → StandsAt key ms d → Contains keys key

-- something stands at a key that is none of these
pub record HasOther (keys : List (List ℕ)) (ms : Members) : Type 0 where
  pub key : List ℕ
  pub value : Data
  pub there : StandsAt key ms value
  pub other : ¬ Contains keys key

-- a whole number from low to high stands at the key
pub record HasNumber (low high : ℕ) (key : List ℕ) (ms : Members) (n : ℕ) : Type 0 where
  pub there : StandsAt key ms (integer (pos n))
  pub least : low ≤ n
  pub most : n ≤ high

-- such a number stands at the key, or nothing does
abbrev pub MayHaveNumber : ℕ → ℕ → List ℕ → Members → Option ℕ → Type 0
MayHaveNumber low high key ms None = IsAbsent key ms
MayHaveNumber low high key ms (Some n) = HasNumber low high key ms n

-- the items of an array are these whole numbers, in order
abbrev pub AreNumbers : Items → List ℕ → Type 0
AreNumbers no_items [] = Unit {0}
AreNumbers no_items (n ∷ ns) = ⊥
AreNumbers (item d ds) [] = ⊥
AreNumbers (item d ds) (n ∷ ns) = (d ≡ integer (pos n)) × AreNumbers ds ns

-- the items of an array are these tables, in order
abbrev pub AreTables : Items → List Members → Type 0
AreTables no_items [] = Unit {0}
AreTables no_items (ms ∷ mss) = ⊥
AreTables (item d ds) [] = ⊥
AreTables (item d ds) (ms ∷ mss) = (d ≡ table ms) × AreTables ds mss

-- an array of these tables stands at the key; where nothing does there are none
abbrev pub HasTables : List ℕ → Members → List Members → Type 0
HasTables key ms mss = (IsAbsent key ms × (mss ≡ [])) ⊎ ((ds : Items) × StandsAt key ms (array ds) × AreTables ds mss)
