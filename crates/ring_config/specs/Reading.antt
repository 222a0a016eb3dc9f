-- Reading that may be refused: an entry of a table, its keys, and what stands at them.
use Rattle.std.specs.Prelude.{◌≡◌, ℕ, ◌&&◌, Bool, true, if◌then◌else◌, List, codes, Option, Some, None, option_map, unwrap_or, ok_or, Result, Ok, Err}
use Rattle.std.specs.List.{list_any}
use Rattle.std.specs.Str.{bytes_eq}
use Rattle.toml.specs.Data.{Data, Members, no_members, member, get_member}
use Rattle.ring_config.specs.declared.error.ConfigError.{ConfigError}
use Rattle.ring_config.specs.declared.error.ConfigError.TheVariants.{Missing, BadValue, Unknown, Memory}
use Rattle.ring_config.specs.declared.error.KeyAt.{KeyAt}
use Rattle.ring_config.specs.declared.error.TableName.{TableName}
use Rattle.ring_config.specs.declared.error.KeyName.{KeyName}
use Rattle.ring_config.specs.declared.error.KeyName.TheVariants as keys

-- what is read, or the first refusal; no definition says that memory ran out
abbrev pub Read : Type 0 → Type 0
Read X = Result X ConfigError

infixl 10 ◌>>=◌
-- what is read next, unless something was refused before
abbrev pub ◌>>=◌ : {A B : Type 0} → Read A → (A → Read B) → Read B
(Ok x) >>= f = f x
(Err e) >>= f = Err e

-- a call that failed did so as the reading does, or because memory ran out
abbrev pub Fails : {X : Type 0} → ConfigError → Read X → Type 0
Fails Memory read = Unit {0}
Fails e read = read ≡ Err e

-- what a call returned stands for what is read, or memory ran out
abbrev pub Gives : {X Y : Type 0} → (X → Y) → Result X ConfigError → Read Y → Type 0
Gives seen (Ok x) read = read ≡ Ok (seen x)
Gives seen (Err e) read = Fails e read

-- an entry of a table of the file: its place among the table's entries, from 0, and what it holds
pub record EntryData : Type 0 where
  pub table : TableName
  pub index : ℕ
  pub members : Members

-- where a key of an entry stands, as a refusal names it
abbrev pub place : KeyName → EntryData → KeyAt
place key e = record { table = e.table; entry = e.index; key = key }

-- ---- keys

-- a key as it stands in the file
abbrev pub key_text : KeyName → List ℕ
key_text keys.Signal = codes "signal"
key_text keys.Start = codes "start"
key_text keys.Hours = codes "hours"
key_text keys.Coordination = codes "coordination"
key_text keys.Phase = codes "phase"
key_text keys.Ped = codes "ped"
key_text keys.Overlap = codes "overlap"
key_text keys.Preempt = codes "preempt"
key_text keys.Conflict = codes "conflict"
key_text keys.Allow = codes "allow"
key_text keys.Floor = codes "floor"
key_text keys.Interval = codes "interval"
key_text keys.Approach = codes "approach"
key_text keys.Number = codes "number"
key_text keys.Ring = codes "ring"
key_text keys.Side = codes "side"
key_text keys.Parents = codes "parents"
key_text keys.A = codes "a"
key_text keys.B = codes "b"
key_text keys.Channel = codes "channel"
key_text keys.Colour = codes "colour"
key_text keys.Tenths = codes "tenths"
key_text keys.AtLeast = codes "at_least"
key_text keys.AtMost = codes "at_most"
key_text keys.Name = codes "name"
key_text keys.Advance = codes "advance"
key_text keys.StopBar = codes "stop_bar"
key_text keys.Travel = codes "travel"
key_text keys.HighNum = codes "high_num"
key_text keys.HighDen = codes "high_den"
key_text keys.Other = codes "?"

-- all keys of an entry are among those listed
abbrev pub all_among : List KeyName → Members → Bool
all_among listed no_members = true
all_among listed (member text d ms) = list_any (λ key. bytes_eq (key_text key) text) listed && all_among listed ms

-- the entry has no key but those listed; else one is unknown
unfoldable pub only : List KeyName → EntryData → Read (Unit {0})
only listed e = if all_among listed e.members then Ok tt else Err (Unknown (place keys.Other e))

-- ---- what stands at a key

-- the value at a key of an entry, where it has the key
abbrev pub value_at : KeyName → EntryData → Option Data
value_at key e = get_member (key_text key) e.members

-- what the value at a key stands for that every entry has: it is missing where the key isn't there, and bad where it stands for nothing
unfoldable pub required : {X : Type 0} → (Data → Option X) → KeyName → EntryData → Read X
required means key e = ok_or (value_at key e) (Missing (place key e)) >>= λ d. ok_or (means d) (BadValue (place key e))

-- what the value at a key stands for, x where the entry has no such key; it is bad where it stands for nothing
unfoldable pub defaulted : {X : Type 0} → X → (Data → Option X) → KeyName → EntryData → Read X
defaulted x means key e = unwrap_or (option_map (λ d. ok_or (means d) (BadValue (place key e))) (value_at key e)) (Ok x)

-- what the value at a key stands for that an entry may do without
abbrev pub optional : {X : Type 0} → (Data → Option X) → KeyName → EntryData → Read (Option X)
optional means key e = defaulted None (λ d. option_map Some (means d)) key e

-- ---- For contracts alone: the parts of what is read at a key

-- the text is one of the keys
abbrev pub is_among : List KeyName → List ℕ → Bool
is_among listed text = list_any (λ key. bytes_eq (key_text key) text) listed

-- what a value stands for; where it stands for nothing it is bad
abbrev pub good : {X : Type 0} → KeyAt → Option X → Read X
good at x = ok_or x (BadValue at)

-- a value that has to be there
abbrev pub or_missing : KeyAt → Option Data → Read Data
or_missing at d = ok_or d (Missing at)

-- the value at a key that every entry has
abbrev pub present : KeyName → EntryData → Read Data
present key e = or_missing (place key e) (value_at key e)

-- what a value stands for, or x where there is none
abbrev pub or_default : {X : Type 0} → X → (Data → Option X) → KeyAt → Option Data → Read X
or_default x means at d = unwrap_or (option_map (λ y. good at (means y)) d) (Ok x)
