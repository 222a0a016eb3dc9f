-- The states at an hour point: the place before an hour's first tenth, or the window's end.
use Rattle.std.specs.Prelude.{◌≡◌, ◌↔◌, ℕ, ◌+◌, ◌<◌, ◌≤◌, ℤ, pos, ◌-ℤ◌, ◌<ℤ◌, Option, Some, None, List, [], length, is_some, slice_index_or}
use Rattle.span_set.specs.declared.set.Span.{Span}
use Rattle.sig_base.specs.declared.values.Row.{Row}
use Rattle.gap_map.specs.Stretches.{known_in}
use Rattle.reach.specs.Runs.{State}
use Rattle.reach.specs.Past.{Holds}
use Rattle.reach.specs.Ahead.{Admits}
use Rattle.hour_store.specs.Store.{IsStore, Store, is_known, rows_at}
use Rattle.board.specs.declared.pasts.PastsError.{PastsError}
use Rattle.board.specs.declared.pasts.PastsError.TheVariants.{NoState, Memory}
use Rattle.board.specs.Logs.{first_tenth}
use Rattle.board.specs.Stops.{AreBefore}
use Rattle.board.specs.Places.{AllEarly, AreAheadsOf}
use Rattle.board.specs.Hours.{Clamped}
use Rattle.signal_log.specs.Log.{IsContradiction, Log, track_at}
use Rattle.signal_log.specs.States.{AreAlike, IsCompleted, IsReached}

-- these are, channel by channel, the states that it can have at point k by the log before; entries that are older than an hour count as one
pub record ArePastsAt (log : Log) (k : ℕ) (pasts : List (List (List Span))) : Type 0 where
  pub shape : AreBefore log.specs pasts
  pub early : AllEarly (first_tenth k) pasts
  pub states : (i : ℕ) → i < length log.specs → (u : State) → Holds (slice_index_or pasts i []) u ↔ Clamped (pos (first_tenth k) -ℤ pos 36001) (IsReached log i (first_tenth k)) u

-- these are, channel by channel, the latest entries with which a state at point k lets the rest of the window be met
pub record AreAheadsAt (log : Log) (k : ℕ) (aheads : List (List (Option ℤ))) : Type 0 where
  pub shape : AreAheadsOf log.specs aheads
  pub states : (i : ℕ) → i < length log.specs → (s : State) → Admits (slice_index_or aheads i []) s ↔ ((s.colour < (track_at log i).rules.colours) × (s.entry <ℤ pos (first_tenth k)) × IsCompleted log i (first_tenth k) s)

-- the state comes up at point k: some run of the hours before it leads to the state, or to one that is alike
abbrev pub ComesUp : Log → ℕ → ℕ → State → Type 0
ComesUp log k i s = (v : State) × IsReached log i (first_tenth k) v × AreAlike (track_at log i).rules (pos (first_tenth k)) v s

-- of each channel's states that come up at point k, these admit those from which the rest of the window can be met
pub record AreAheadsFor (log : Log) (k : ℕ) (aheads : List (List (Option ℤ))) : Type 0 where
  pub shape : AreAheadsOf log.specs aheads
  pub states : (i : ℕ) → i < length log.specs → (s : State) → ComesUp log k i s → Admits (slice_index_or aheads i []) s ↔ IsCompleted log i (first_tenth k) s

-- the rows that are held, none where the hour isn't held
abbrev pub rows_or_none : Option (List Row) → List Row
rows_or_none None = []
rows_or_none (Some rows) = rows

-- of the store these rows are held of the hour, and these blanked ranges say which of its tenths are known
pub record HasHour (s : Store) (hour : ℕ) (rows : Option (List Row)) (blanks : List Span) : Type 0 where
  pub is_store : IsStore s
  pub within : hour < length s.hours
  pub held : rows_at s hour ≡ rows
  pub known : (t : ℕ) → first_tenth hour ≤ t → t < first_tenth (hour + 1) → known_in (is_some rows) blanks t ≡ is_known s t

-- an error that isn't that memory ran out names the row at which the log contradicts itself
abbrev pub NamesContradiction : Log → PastsError → Type 0
NamesContradiction log (NoState row) = IsContradiction log row
NamesContradiction log Memory = Unit {0}
