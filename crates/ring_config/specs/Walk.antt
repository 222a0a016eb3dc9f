-- The one walk that serves all tables: too many entries, then each entry with its keys, then repetitions.
use Rattle.std.specs.Prelude.{◌≡◌, false, ℕ, ◌+◌, Bool, nat_lt, if◌then◌else◌, List, [], ◌∷◌, ◌++◌, length, Ok, Err}
use Rattle.std.specs.List.{list_any, AllByRecursion}
use Rattle.toml.specs.Data.{Members}
use Rattle.ring_config.specs.declared.error.ConfigError.TheVariants.{Repeated, TooMany}
use Rattle.ring_config.specs.declared.error.TableName.{TableName}
use Rattle.ring_config.specs.declared.error.KeyName.{KeyName}
use Rattle.ring_config.specs.declared.error.KeyName.TheVariants as keys
use Rattle.ring_config.specs.Reading.{Read, ◌>>=◌, EntryData, place, only}

-- what the format says of a table: its name, the most entries it may have, the keys of an entry, what an entry with good values is, whether an entry repeats another, and the key that is then named
pub record Rules (X : Type 0) : Type 0 where
  pub table : TableName
  pub limit : ℕ
  pub listed : List KeyName
  pub values : EntryData → Read X
  pub repeats : X → X → Bool
  pub repeated : KeyName

-- an entry after earlier ones: no key but the table's, good values, and none of the earlier ones again
unfoldable pub read_entry : {X : Type 0} → Rules X → List X → EntryData → Read X
read_entry rules earlier e = do
  _ ← only rules.listed e
  x ← rules.values e
  if list_any (λ y. rules.repeats y x) earlier then Err (Repeated (place rules.repeated e)) else Ok x

-- the entries of a table from number i on, counted from 0, with the earlier ones
unfoldable pub entries_from : {X : Type 0} → Rules X → ℕ → List X → List Members → Read (List X)
entries_from rules i earlier [] = Ok earlier
entries_from rules i earlier (ms ∷ mss) =
    read_entry rules earlier (record { table = rules.table; index = i; members = ms }) >>= λ x. entries_from rules (i + 1) (earlier ++ x ∷ []) mss

-- the entries of a table: not more than its limit, and each as it has to be
unfoldable pub entries_of : {X : Type 0} → Rules X → List Members → Read (List X)
entries_of rules mss =
    if nat_lt rules.limit (length mss) then Err (TooMany (record { table = rules.table; entry = rules.limit; key = keys.Other }))
    else entries_from rules 0 [] mss

-- ---- For contracts alone

-- the entry of a table at this place, from 0
abbrev pub entry_at : {X : Type 0} → Rules X → ℕ → Members → EntryData
entry_at rules i ms = record { table = rules.table; index = i; members = ms }

-- the entry repeats none of the earlier ones
abbrev pub unrepeated : {X : Type 0} → Rules X → EntryData → List X → X → Read X
unrepeated rules e earlier x = if list_any (λ y. rules.repeats y x) earlier then Err (Repeated (place rules.repeated e)) else Ok x

-- R holds of each entry and each later one
abbrev pub EachPair : {X : Type 0} → (X → X → Type 0) → List X → Type 0
EachPair R [] = Unit {0}
EachPair R (x ∷ xs) = AllByRecursion (R x) xs × EachPair R xs

-- no entry repeats an earlier one
abbrev pub NoneRepeats : {X : Type 0} → (X → X → Bool) → List X → Type 0
NoneRepeats repeats xs = EachPair (λ x y. repeats x y ≡ false) xs
