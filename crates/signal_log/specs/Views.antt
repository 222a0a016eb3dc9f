-- What the view of one hour says of the histories of the whole window.
use Rattle.std.specs.Prelude.{◌≡◌, ◌↔◌, ◌*◌, ◌+◌, ◌<◌, ℕ, ℤ, pos, true, Some, [], length, take, slice_index_or}
use Rattle.colour_machine.specs.Rules.{Rules}
use Rattle.reach.specs.Runs.{State}
use Rattle.reach.specs.Past.{Holds}
use Rattle.reach.specs.Ahead.{Admits}
use Rattle.gap_map.specs.Stretches.{IsCut, known_at}
use Rattle.hour_store.specs.Store.{IsStore, Store, is_known, rows_at}
use Rattle.board.specs.History.{Agreeing, events_at}
use Rattle.board.specs.Channels.{track}
use Rattle.board.specs.Logs.{HourLog, end_tenth, first_tenth, no_row, no_spec}
use Rattle.board.specs.Verdicts.{MayPass, MayPassRow, PassStates}
use Rattle.signal_log.specs.Log.{HasHistory, Log, log_of, track_at}
use Rattle.signal_log.specs.States.{AreAlike, MayBeAfter, MayBeAtEnd, MayBeAtEndOf}
use Rattle.signal_log.specs.Points.{AreAheadsFor, ArePastsAt}

-- what is told of the channels of the view by a store
abbrev pub log_in : Store → HourLog → Log
log_in s view = log_of view.specs s

-- the view is of a held hour of the store, cut by what is known, between the states at the point before it and, of those that come up at the point after it, those that can be completed
pub record IsHourOf (s : Store) (view : HourLog) : Type 0 where
  pub is_store : IsStore s
  pub within : view.hour < length s.hours
  pub held : rows_at s view.hour ≡ Some view.rows
  pub cut : IsCut (is_known s) (36000 * view.hour) (36000 * view.hour + 36000) view.stretches
  pub before : ArePastsAt (log_in s view) view.hour view.before
  pub after : AreAheadsFor (log_in s view) (view.hour + 1) view.after

-- the states of one kind are those of the other, but that some are alike and not the same
pub record AreSameOrAlike (m : Rules) (p : ℤ) (P Q : State → Type 0) : Type 0 where
  pub to : (v : State) → P v → (w : State) × Q w × AreAlike m p v w
  pub back : (w : State) → Q w → (v : State) × P v × AreAlike m p w v

-- the same of the states of all channels at once
pub record AreAllSameOrAlike (log : Log) (p : ℤ) (P Q : (ℕ → State) → Type 0) : Type 0 where
  pub to : (v : ℕ → State) → P v → (w : ℕ → State) × Q w × ((i : ℕ) → i < length log.specs → AreAlike (track_at log i).rules p (v i) (w i))
  pub back : (w : ℕ → State) → Q w → (v : ℕ → State) × P v × ((i : ℕ) → i < length log.specs → AreAlike (track_at log i).rules p (w i) (v i))

-- the tenth of row n of the view, and how many of the first n rows are at that tenth
abbrev pub tenth_of : HourLog → ℕ → ℕ
tenth_of view n = (slice_index_or view.rows n no_row).at

abbrev pub before_in_tenth : HourLog → ℕ → ℕ
before_in_tenth view n = length (events_at (take n view.rows) (tenth_of view n))

-- before a known row
abbrev pub SeesRowPlaces : Store → HourLog → Type 0
SeesRowPlaces s view = (n i : ℕ) → n < length view.rows → known_at view.stretches (tenth_of view n) ≡ true → i < length view.specs → AreSameOrAlike (track_at (log_in s view) i).rules (pos (first_tenth view.hour)) (MayPassRow view n i) (MayBeAfter (log_in s view) i (tenth_of view n) (before_in_tenth view n))

-- at the end of a known tenth, one channel
abbrev pub SeesEndPlaces : Store → HourLog → Type 0
SeesEndPlaces s view = (x i : ℕ) → known_at view.stretches x ≡ true → i < length view.specs → AreSameOrAlike (track_at (log_in s view) i).rules (pos (first_tenth view.hour)) (MayPass view x i) (MayBeAtEndOf (log_in s view) i x)

-- all channels at once
abbrev pub SeesEndsOfAll : Store → HourLog → Type 0
SeesEndsOfAll s view = (x : ℕ) → known_at view.stretches x ≡ true → AreAllSameOrAlike (log_in s view) (pos (first_tenth view.hour)) (PassStates view x) (MayBeAtEnd (log_in s view) x)

-- each channel has a run of the hour that agrees, from a state before it to one that is admitted after it
abbrev pub HasHourRuns : HourLog → Type 0
HasHourRuns view = (i : ℕ) → i < length view.specs → (v : State) × (u : State) × Holds (slice_index_or view.before i []) v × Agreeing (track (slice_index_or view.specs i no_spec)) (known_at view.stretches) (events_at view.rows) (first_tenth view.hour) (end_tenth view.hour) v u × Admits (slice_index_or view.after i []) u

-- some history of the window agrees exactly where the hour has one, told by the runs of its channels or by the states at a known tenth
pub record SeesHistory (s : Store) (view : HourLog) : Type 0 where
  pub runs : HasHistory (log_in s view) ↔ HasHourRuns view
  pub states : (x : ℕ) → known_at view.stretches x ≡ true → HasHistory (log_in s view) ↔ ((w : ℕ → State) × PassStates view x w)
