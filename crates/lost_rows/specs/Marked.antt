-- Histories of which rows were lost: they needn't agree with the log as it stands.
use Rattle.std.specs.Prelude.{◌≡◌, ℕ, suc, ◌+◌, ◌<◌, Bool, true, false, if◌then◌else◌, List, [], ◌∷◌, length, map}
use Rattle.reach.specs.Runs.{State}
use Rattle.board.specs.History.{Agree, AllLegal, Bounded, Event, History, IsEvent, events_at, start_of}
use Rattle.signal_log.specs.Log.{IsBeforeWindow, Log, track_at, window_end}

-- an event of a history, and whether the row that would tell it was lost
pub record Marked : Type 0 where
  pub event : Event
  pub lost : Bool

-- the events, lost or not
abbrev pub events_of : List Marked → List Event
events_of [] = []
events_of (x ∷ xs) = x.event ∷ events_of xs

-- the events but for the lost ones
abbrev pub told : List Marked → List Event
told [] = []
told (x ∷ xs) = if x.lost then told xs else x.event ∷ told xs

-- how many of them were lost
abbrev pub lost_of : List Marked → ℕ
lost_of [] = 0
lost_of (x ∷ xs) = if x.lost then suc (lost_of xs) else lost_of xs

-- how many were lost over all these tenths
abbrev pub lost_in : List (List Marked) → ℕ
lost_in [] = 0
lost_in (t ∷ ts) = lost_of t + lost_in ts

-- a history with marks: a state for each channel before the window, and a list of marked events for each tenth
pub record MarkedHistory : Type 0 where
  pub starts : List State
  pub tenths : List (List Marked)

-- the history, without the marks
abbrev pub plain : MarkedHistory → History
plain h = record { starts = h.starts; events = map events_of h.tenths }

-- from tenth t on, tenth by tenth: nothing is lost where the tenth isn't known, since no row would tell it
abbrev pub LostAtKnown : (ℕ → Bool) → ℕ → List (List Marked) → Type 0
LostAtKnown known t [] = Unit {0}
LostAtKnown known t (x ∷ xs) = ((known t ≡ false) → lost_of x ≡ 0) × LostAtKnown known (t + 1) xs

-- each lost event is one that a log could have
abbrev pub LostAreEvents : List Marked → Type 0
LostAreEvents [] = Unit {0}
LostAreEvents (x ∷ xs) = ((x.lost ≡ true) → IsEvent x.event) × LostAreEvents xs

-- so at all these tenths
abbrev pub AllLostAreEvents : List (List Marked) → Type 0
AllLostAreEvents [] = Unit {0}
AllLostAreEvents (t ∷ ts) = LostAreEvents t × AllLostAreEvents ts

-- a history of the window of which k rows were lost: it is legal for all channels, and each known tenth has the events of its rows in their order and, anywhere among them, the lost ones
pub record LosesRows (log : Log) (h : MarkedHistory) (k : ℕ) : Type 0 where
  pub covers : length h.tenths ≡ window_end log
  pub starts : (i : ℕ) → i < length log.specs → IsBeforeWindow (track_at log i).rules (start_of (plain h) i)
  pub legal : AllLegal (length log.specs) (track_at log) 0 (plain h)
  pub agree : Agree log.known (events_at log.rows) 0 (map told h.tenths)
  pub bounded : Bounded log.known 0 (map events_of h.tenths)
  pub at_known : LostAtKnown log.known 0 h.tenths
  pub events : AllLostAreEvents h.tenths
  pub count : lost_in h.tenths ≡ k
