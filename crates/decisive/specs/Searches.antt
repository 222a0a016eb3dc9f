-- Where the searches for a window's ends come to.
use Rattle.std.specs.Prelude.{◌≡◌, ◌⊎◌, ℕ, ◌+◌, ◌*◌, ◌<◌, ◌≤◌, List, length, take}
use Rattle.sig_base.specs.declared.values.Row.{Row}
use Rattle.gap_map.specs.declared.stretch.Stretch.{Stretch}
use Rattle.channel_tables.specs.declared.spec.Spec.{Spec}
use Rattle.hour_store.specs.Store.{Store}
use Rattle.board.specs.History.{events_at}
use Rattle.board.specs.Logs.{first_tenth}
use Rattle.board.specs.Places.{IsPlace}
use Rattle.signal_log.specs.Log.{log_of}
use Rattle.rule_audit.specs.declared.lines.Place.{Place}
use Rattle.rule_audit.specs.declared.lines.Place.TheVariants.{BeforeRow, EndOfTenth}
use Rattle.decisive.specs.declared.hours.HoursTold.{HoursTold}
use Rattle.decisive.specs.declared.hours.Placed.{Placed}
use Rattle.decisive.specs.declared.judge.Start.{Start}
use Rattle.decisive.specs.declared.parts.Part.{Part}
use Rattle.decisive.specs.Candidates.{BeginsBy, EndsBy, IsFirstEnd, IsLastBegin, NoneBegins, NoneEnds}
use Rattle.decisive.specs.Laws.{TellsOf}

-- the end is tenth x itself, or else that of the first row after the place up to whose tenth it breaks
abbrev pub IsEndAt : Start → List Spec → List Part → ℕ → List Row → List Stretch → ℕ → ℕ → Type 0
IsEndAt start specs parts x rows ss n v = ((v ≡ x) × EndsBy start specs parts x rows ss n x) ⊎ ((EndsBy start specs parts x rows ss n x → ⊥) × IsFirstEnd start specs parts x rows ss n v)

-- neither x nor a row's tenth is, although the last tenth breaks it
abbrev pub NoEnd : Start → List Spec → List Part → ℕ → List Row → List Stretch → ℕ → ℕ → Type 0
NoEnd start specs parts x rows ss n last = EndsBy start specs parts x rows ss n last → (EndsBy start specs parts x rows ss n x → ⊥) × NoneEnds start specs parts x rows ss n (length rows)

-- the begin is tenth x itself, or else that of the last row before the place from whose tenth on it breaks
abbrev pub IsBeginAt : List Spec → List Part → ℕ → List Row → List Stretch → ℕ → ℕ → Type 0
IsBeginAt specs parts x rows ss n u = ((u ≡ x) × BeginsBy specs parts x rows ss n x) ⊎ ((BeginsBy specs parts x rows ss n x → ⊥) × IsLastBegin specs parts x rows ss n u)

abbrev pub NoBegin : List Spec → List Part → ℕ → List Row → List Stretch → ℕ → ℕ → Type 0
NoBegin specs parts x rows ss n first = BeginsBy specs parts x rows ss n first → (BeginsBy specs parts x rows ss n x → ⊥) × NoneBegins specs parts x rows ss n 0

-- it tells of the store's tenths from f up to t, with the rows of so many hours at most
pub record AreTold (s : Store) (told : HoursTold) (f t k : ℕ) : Type 0 where
  pub tells : (specs : List Spec) → TellsOf (log_of specs s) told.rows.items told.stretches.items f t
  pub few : length told.rows.items ≤ 400000 * k

-- the same, with the place at tenth x after the first n rows
pub record ArePlaced (s : Store) (told : HoursTold) (f t k x n : ℕ) : Type 0 where
  pub are : AreTold s told f t k
  pub place : IsPlace f t told.rows.items told.stretches.items x n

-- how many rows of tenth x stand before the place after the first n rows
abbrev pub rank : HoursTold → ℕ → ℕ → ℕ
rank told x n = length (events_at (take n told.rows.items) x)

-- the end that was found in the hours from one on, or the window's last tenth, where these are all hours to the window's end and have none
pub record IsEndFound (start : Start) (s : Store) (specs : List Spec) (parts : List Part) (hour x j v : ℕ) (placed : Placed) : Type 0 where
  pub next : ℕ
  pub after : hour < next
  pub within : next ≤ length s.hours
  pub are : ArePlaced s placed.told (first_tenth hour) (first_tenth next) next x placed.place
  pub rank_is : rank placed.told x placed.place ≡ j
  pub found : (IsEndAt start specs parts x placed.told.rows.items placed.told.stretches.items placed.place v) ⊎ ((next ≡ length s.hours) × (v + 1 ≡ first_tenth next) × NoEnd start specs parts x placed.told.rows.items placed.told.stretches.items placed.place v)

-- the begin that was found in what is told from some hour on up to the end, or tenth 0, where that is told and has none
pub record IsBeginFound (s : Store) (specs : List Spec) (parts : List Part) (x j v u : ℕ) : Type 0 where
  pub rows : List Row
  pub stretches : List Stretch
  pub place : ℕ
  pub first : ℕ
  pub tells : TellsOf (log_of specs s) rows stretches (first_tenth first) (v + 1)
  pub rank_is : length (events_at (take place rows) x) ≡ j
  pub is_place : IsPlace (first_tenth first) (v + 1) rows stretches x place
  pub found : (IsBeginAt specs parts x rows stretches place u) ⊎ ((first ≡ 0) × (u ≡ 0) × NoBegin specs parts x rows stretches place 0)

-- how many rows of tenth x stand before a place of it, among the hour's rows
abbrev pub rank_in : List Row → ℕ → Place → ℕ
rank_in rows x (BeforeRow n) = length (events_at (take n rows) x)
rank_in rows x EndOfTenth = length (events_at rows x)

-- both ends were found
pub record AreFound (start : Start) (s : Store) (specs : List Spec) (parts : List Part) (hour x j u v : ℕ) : Type 0 where
  pub placed : Placed
  pub end : IsEndFound start s specs parts hour x j v placed
  pub begin : IsBeginFound s specs parts x j v u
