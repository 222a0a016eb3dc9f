-- How often a channel is on in a range of tenths, at least and at most.
use Rattle.std.specs.Prelude.{ℕ, ◌≡◌, ◌<◌, ◌≤◌, List, length}
use Rattle.board.specs.Channels.{AreSpecs}
use Rattle.board.specs.History.{History}
use Rattle.board.specs.Logs.{first_tenth}
use Rattle.channel_tables.specs.declared.spec.Spec.{Spec}
use Rattle.hour_store.specs.Store.{IsStore, Store}
use Rattle.signal_log.specs.Laws.{TellSame}
use Rattle.signal_log.specs.Log.{AgreesWith, HasHistory, Log, log_of, track_at, window_end}
use Rattle.detector_state.specs.Ranges.{Counts}
use Rattle.detector_state.specs.Free.{IsOrdered, Order}
use Rattle.detector_state.specs.Tells.{HasColour, IsColourReached, IsSure, TellSameUpto}

-- each history that agrees is on at the least number of tenths or more, and at the greatest or fewer
abbrev pub NumbersBound : Type 0
NumbersBound = (log : Log) (i : ℕ) (o : Order) (h : History) (a b least greatest : ℕ) → AreSpecs log.specs → i < length log.specs → IsOrdered (track_at log i).rules o → AgreesWith log h → a ≤ b → b ≤ window_end log → Counts (IsSure log i o.on) a b least → Counts (IsColourReached log i o.on) a b greatest → (n : ℕ) × Counts (HasColour log h i o.on) a b n × (least ≤ n) × (n ≤ greatest)

-- in all ranges at once the history is on as often as it is sure to be
abbrev pub HasLeast : Log → ℕ → ℕ → History → Type 0
HasLeast log i on h = (a b n : ℕ) → b ≤ window_end log → Counts (IsSure log i on) a b n → Counts (HasColour log h i on) a b n

-- as often as it may be
abbrev pub HasGreatest : Log → ℕ → ℕ → History → Type 0
HasGreatest log i on h = (a b n : ℕ) → b ≤ window_end log → Counts (IsColourReached log i on) a b n → Counts (HasColour log h i on) a b n

-- one history that agrees has the least numbers, and one the greatest
abbrev pub NumbersReached : Type 0
NumbersReached = (log : Log) (i : ℕ) (o : Order) → AreSpecs log.specs → HasHistory log → i < length log.specs → IsOrdered (track_at log i).rules o → ((h : History) × AgreesWith log h × HasLeast log i o.on h) × ((h : History) × AgreesWith log h × HasGreatest log i o.on h)

-- the numbers of a range depend on the tenths up to its end alone
abbrev pub NumbersStay : Type 0
NumbersStay = (a b : Log) (i c t low high n : ℕ) → TellSameUpto a b t → high ≤ t → (Counts (IsSure a i c) low high n → Counts (IsSure b i c) low high n) × (Counts (IsColourReached a i c) low high n → Counts (IsColourReached b i c) low high n)

-- stores that tell the same of the hours before point k tell the same of the tenths before it
abbrev pub StoresTell : Type 0
StoresTell = (specs : List Spec) (a b : Store) (k : ℕ) → IsStore a → IsStore b → TellSame a b 0 k → TellSameUpto (log_of specs a) (log_of specs b) (first_tenth k)

-- a range has one least and one greatest number
abbrev pub NumbersAreOne : Type 0
NumbersAreOne = (log : Log) (i c low high n m : ℕ) → (Counts (IsSure log i c) low high n → Counts (IsSure log i c) low high m → n ≡ m) × (Counts (IsColourReached log i c) low high n → Counts (IsColourReached log i c) low high m → n ≡ m)
