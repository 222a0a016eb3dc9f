-- What is told of one signal over its whole window, and the histories that agree with it.
use Rattle.std.specs.Prelude.{◌≡◌, ℕ, ◌+◌, ◌*◌, ◌<◌, ◌≤◌, pos, ◌<ℤ◌, Bool, List, length, take, slice_index_or}
use Rattle.colour_machine.specs.Rules.{Rules}
use Rattle.reach.specs.Runs.{State}
use Rattle.sig_base.specs.declared.values.Row.{Row}
use Rattle.channel_tables.specs.declared.spec.Spec.{Spec}
use Rattle.hour_store.specs.Store.{Store, is_known, known_rows}
use Rattle.board.specs.History.{Agrees, History, Track, events_at, start_of}
use Rattle.board.specs.Channels.{track}
use Rattle.board.specs.Logs.{no_row, no_spec}

-- what is told of a signal over its window: its channels, how many hours the window has, which tenths are known, and the known rows in their order
pub record Log : Type 0 where
  pub specs : List Spec
  pub hours : ℕ
  pub known : ℕ → Bool
  pub rows : List Row

-- what a store tells of the channels
abbrev pub log_of : List Spec → Store → Log
log_of specs s = record { specs = specs; hours = length s.hours; known = is_known s; rows = known_rows s }

-- the channel with this place among the specs
abbrev pub track_at : Log → ℕ → Track
track_at log i = track (slice_index_or log.specs i no_spec)

-- the tenth after the window's last
abbrev pub window_end : Log → ℕ
window_end log = 36000 * log.hours

-- a state before the window: one of the machine's colours, entered before tenth 0
abbrev pub IsBeforeWindow : Rules → State → Type 0
IsBeforeWindow m s = (s.colour < m.colours) × (s.entry <ℤ pos 0)

-- the history covers the window and agrees with the log: no event is illegal for its channel, and each known tenth has exactly the events of its rows, in order
pub record AgreesWith (log : Log) (h : History) : Type 0 where
  pub covers : length h.events ≡ window_end log
  pub starts : (i : ℕ) → i < length log.specs → IsBeforeWindow (track_at log i).rules (start_of h i)
  pub agrees : Agrees (length log.specs) (track_at log) log.known (events_at log.rows) 0 h

-- some history agrees with the log
abbrev pub HasHistory : Log → Type 0
HasHistory log = (h : History) × AgreesWith log h

-- the log without its known rows after the first n; their tenths stay known
abbrev pub first_rows : ℕ → Log → Log
first_rows n log = record log { rows = take n log.rows }

-- the first known row such that no history agrees with the rows up to it, were the known tenths without any row after it
pub record IsContradiction (log : Log) (row : Row) : Type 0 where
  pub place : ℕ
  pub within : place < length log.rows
  pub is_row : row ≡ slice_index_or log.rows place no_row
  pub none : HasHistory (first_rows (place + 1) log) → ⊥
  pub least : (n : ℕ) → n ≤ place → HasHistory (first_rows n log)
