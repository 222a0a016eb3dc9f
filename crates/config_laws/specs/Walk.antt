-- What is said of a table by any rules: which entries are accepted, and which one is refused first.
use Rattle.std.specs.Prelude.{◌≡◌, ◌≤◌, ◌<◌, ◌⊎◌, ◌↔◌, ◌+◌, ℕ, true, false, List, [], ◌∷◌, ◌++◌, length, map, AllPairs, Any, Ok, Err}
use Rattle.toml.specs.Data.{Members}
use Rattle.ring_config.specs.declared.error.ConfigError.{ConfigError}
use Rattle.ring_config.specs.declared.error.ConfigError.TheVariants.{Repeated, TooMany, Unknown}
use Rattle.ring_config.specs.declared.error.KeyName.TheVariants as keys
use Rattle.ring_config.specs.Reading.{EntryData, key_text, place}
use Rattle.ring_config.specs.Walk.{Rules, entries_of, entry_at}
use Rattle.config_laws.specs.Keys.{HasOnly, HasOther}

-- an entry has only the keys that the rules list, and its values are good and say x
pub record IsGood {X : Type 0} (rules : Rules X) (e : EntryData) (x : X) : Type 0 where
  pub only : HasOnly (map key_text rules.listed) e.members
  pub values : rules.values e ≡ Ok x

-- the tables are good entries from number i on, and say xs in order
abbrev pub AreGoodFrom : {X : Type 0} → Rules X → ℕ → List Members → List X → Type 0
AreGoodFrom rules i [] [] = Unit {0}
AreGoodFrom rules i [] (x ∷ xs) = ⊥
AreGoodFrom rules i (ms ∷ mss) [] = ⊥
AreGoodFrom rules i (ms ∷ mss) (x ∷ xs) = IsGood rules (entry_at rules i ms) x × AreGoodFrom rules (i + 1) mss xs

-- each of these entries is good, and none repeats an earlier one
pub record AreAccepted {X : Type 0} (rules : Rules X) (mss : List Members) (xs : List X) : Type 0 where
  pub good : AreGoodFrom rules 0 mss xs
  pub distinct : AllPairs (λ x y. rules.repeats x y ≡ false) xs

-- a table is accepted as xs: it has at most as many entries as the rules allow, each is good, and none repeats an earlier one
pub record IsAcceptedTable {X : Type 0} (rules : Rules X) (mss : List Members) (xs : List X) : Type 0 where
  pub few : length mss ≤ rules.limit
  pub accepted : AreAccepted rules mss xs

-- an entry repeats an earlier one
pub record IsRepetition {X : Type 0} (rules : Rules X) (earlier : List X) (e : EntryData) : Type 0 where
  pub item : X
  pub good : IsGood rules e item
  pub repeated : Any (λ y. rules.repeats y item ≡ true) earlier

-- the first thing that is wrong with an entry after earlier ones: a key that isn't listed, else what its values are refused for, else that it repeats an earlier one
abbrev pub IsRefusal : {X : Type 0} → Rules X → List X → EntryData → ConfigError → Type 0
IsRefusal rules earlier e error =
    (HasOther (map key_text rules.listed) e.members × (error ≡ Unknown (place keys.Other e)))
    ⊎ ((HasOnly (map key_text rules.listed) e.members × (rules.values e ≡ Err error))
    ⊎ (IsRepetition rules earlier e × (error ≡ Repeated (place rules.repeated e))))

-- the first entry that is refused: the entries before it are accepted
pub record IsFirstRefusal {X : Type 0} (rules : Rules X) (mss : List Members) (error : ConfigError) : Type 0 where
  pub before : List Members
  pub entry : Members
  pub after : List Members
  pub parts : mss ≡ before ++ entry ∷ after
  pub earlier : List X
  pub accepted : AreAccepted rules before earlier
  pub refused : IsRefusal rules earlier (entry_at rules (length before) entry) error

-- a table is refused: it has too many entries, which is said at the first one over the limit, or else for its first entry that is refused
abbrev pub IsRefusedTable : {X : Type 0} → Rules X → List Members → ConfigError → Type 0
IsRefusedTable rules mss error =
    ((rules.limit < length mss) × (error ≡ TooMany (record { table = rules.table; entry = rules.limit; key = keys.Other })))
    ⊎ ((length mss ≤ rules.limit) × IsFirstRefusal rules mss error)

-- the reading of a table by rules gives exactly what is accepted
abbrev pub TablesAreAccepted : Type 0 → Type 0
TablesAreAccepted X = (rules : Rules X) (mss : List Members) (xs : List X) → (entries_of rules mss ≡ Ok xs) ↔ IsAcceptedTable rules mss xs

-- the reading of a table by rules refuses exactly what is refused
abbrev pub TablesAreRefused : Type 0 → Type 0
TablesAreRefused X = (rules : Rules X) (mss : List Members) (error : ConfigError) → (entries_of rules mss ≡ Err error) ↔ IsRefusedTable rules mss error
