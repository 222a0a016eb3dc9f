-- What holds of the log of a signal, whatever it is.
use Rattle.std.specs.Prelude.{◌≡◌, ◌↔◌, ◌<◌, ◌≤◌, ℕ, ℤ, pos, ◌≤ℤ◌, Option, Some, List, length}
use Rattle.span_set.specs.declared.set.Span.{Span}
use Rattle.sig_base.specs.declared.values.Row.{Row}
use Rattle.channel_tables.specs.declared.spec.Spec.{Spec}
use Rattle.colour_machine.specs.Rules.{Rules}
use Rattle.reach.specs.Runs.{State}
use Rattle.reach.specs.Tests.{InBound}
use Rattle.reach.specs.declared.seen.AgeBound.{AgeBound}
use Rattle.reach.specs.declared.seen.AgeBound.TheVariants.{Any, AtLeast, AtMost}
use Rattle.hour_store.specs.Store.{IsKnown, IsStore, Store, is_known, nothing_held, rows_at}
use Rattle.board.specs.Channels.{AreSpecs}
use Rattle.board.specs.Hours.{AreEnds, AreStarts}
use Rattle.board.specs.Logs.{HourLog, first_tenth}
use Rattle.board.specs.Places.{AreAheadsOf, AreSameFor}
use Rattle.board.specs.Stops.{AreBefore}
use Rattle.signal_log.specs.Log.{HasHistory, IsContradiction, Log, log_of, window_end}
use Rattle.signal_log.specs.States.{AreAlike, MayBeAtEnd, MayBeAtEndOf}
use Rattle.signal_log.specs.Points.{AreAheadsAt, AreAheadsFor, ArePastsAt}
use Rattle.signal_log.specs.Views.{IsHourOf, SeesEndPlaces, SeesEndsOfAll, SeesHistory, SeesRowPlaces, log_in}

-- the states with which a window starts are those at its first point
abbrev pub StartAtFirst : Type 0
StartAtFirst = (log : Log) (pasts : List (List (List Span))) → AreBefore log.specs pasts → AreStarts log.specs (length log.specs) pasts → ArePastsAt log 0 pasts

-- the states with which it may end are those that can be completed at its last
abbrev pub EndAtLast : Type 0
EndAtLast = (log : Log) (aheads : List (List (Option ℤ))) → AreAheadsOf log.specs aheads → AreEnds log.specs (pos (window_end log)) (length log.specs) aheads → AreAheadsAt log log.hours aheads

-- where each channel has a state at the window's end, some history agrees
abbrev pub StatesMeanHistory : Type 0
StatesMeanHistory = (log : Log) (pasts : List (List (List Span))) → AreSpecs log.specs → ArePastsAt log log.hours pasts → HasHistory log

-- no history agrees with a log that contradicts itself
abbrev pub ContradictionMeansNone : Type 0
ContradictionMeansNone = (specs : List Spec) (s : Store) (row : Row) → AreSpecs specs → IsStore s → IsContradiction (log_of specs s) row → HasHistory (log_of specs s) → ⊥

-- a log contradicts itself at one row
abbrev pub ContradictionIsOne : Type 0
ContradictionIsOne = (log : Log) (a b : Row) → IsContradiction log a → IsContradiction log b → a ≡ b

-- some history agrees where nothing is held
abbrev pub NothingContradicts : Type 0
NothingContradicts = (specs : List Spec) (hours : ℕ) → AreSpecs specs → HasHistory (log_of specs (nothing_held hours))

-- some history agrees with what is less: fewer tenths are known, and the hours that are held have the same rows
abbrev pub LessAgrees : Type 0
LessAgrees = (specs : List Spec) (more less : Store) → AreSpecs specs → IsStore more → IsStore less → length less.hours ≡ length more.hours → ((t : ℕ) → IsKnown less t → IsKnown more t) → ((hour : ℕ) (rows : List Row) → rows_at less hour ≡ Some rows → rows_at more hour ≡ Some rows) → HasHistory (log_of specs more) → HasHistory (log_of specs less)

-- both stores tell the same of the hours from low up to high: their rows, and which of their tenths are known
pub record TellSame (a b : Store) (low high : ℕ) : Type 0 where
  pub rows : (hour : ℕ) → low ≤ hour → hour < high → rows_at a hour ≡ rows_at b hour
  pub known : (t : ℕ) → first_tenth low ≤ t → t < first_tenth high → is_known a t ≡ is_known b t

-- the states at a point depend on the hours before it alone
abbrev pub PastsStay : Type 0
PastsStay = (specs : List Spec) (a b : Store) (k : ℕ) (pasts : List (List (List Span))) → IsStore a → IsStore b → TellSame a b 0 k → ArePastsAt (log_of specs a) k pasts → ArePastsAt (log_of specs b) k pasts

-- the states that can be completed from a point depend on the hours after it alone
abbrev pub AheadsStay : Type 0
AheadsStay = (specs : List Spec) (a b : Store) (k : ℕ) (aheads : List (List (Option ℤ))) → IsStore a → IsStore b → length a.hours ≡ length b.hours → TellSame a b k (length a.hours) → AreAheadsAt (log_of specs a) k aheads → AreAheadsAt (log_of specs b) k aheads

-- the row at which a log contradicts itself depends on the hours up to it alone
abbrev pub ContradictionStays : Type 0
ContradictionStays = (specs : List Spec) (a b : Store) (k : ℕ) (row : Row) → AreSpecs specs → IsStore a → IsStore b → k ≤ length a.hours → k ≤ length b.hours → TellSame a b 0 k → row.at < first_tenth k → IsContradiction (log_of specs a) row → IsContradiction (log_of specs b) row

-- the channels' states at the end of a tenth are all combinations of those that each may have
abbrev pub ChannelsCombine : Type 0
ChannelsCombine = (log : Log) (x : ℕ) (v : ℕ → State) → AreSpecs log.specs → HasHistory log → x < window_end log → MayBeAtEnd log x v ↔ ((i : ℕ) → i < length log.specs → MayBeAtEndOf log i x (v i))

-- the bound is at most an hour
abbrev pub IsWithinHour : AgeBound → Type 0
IsWithinHour Any = Unit {0}
IsWithinHour (AtLeast n) = n ≤ 36000
IsWithinHour (AtMost n) = n ≤ 36000

-- states that are alike have one colour, and their ages meet the same bounds
abbrev pub AlikeMeetSame : Type 0
AlikeMeetSame = (m : Rules) (p at : ℤ) (v w : State) (bound : AgeBound) → AreAlike m p v w → p ≤ℤ at → IsWithinHour bound → (v.colour ≡ w.colour) × (InBound bound at v.entry ↔ InBound bound at w.entry)

-- what the view of an hour says of its known places is what the histories of the window say
pub record ViewsTell (s : Store) (view : HourLog) : Type 0 where
  pub history : SeesHistory s view
  pub rows : HasHistory (log_in s view) → SeesRowPlaces s view
  pub ends : HasHistory (log_in s view) → SeesEndPlaces s view
  pub ends_of_all : SeesEndsOfAll s view

abbrev pub HoursTell : Type 0
HoursTell = (s : Store) (view : HourLog) → AreSpecs view.specs → IsHourOf s view → ViewsTell s view

-- what tells all states that can be completed tells those that come up
abbrev pub AllCount : Type 0
AllCount = (log : Log) (k : ℕ) (aheads : List (List (Option ℤ))) → AreAheadsAt log k aheads → AreAheadsFor log k aheads

-- what admits the same of the states at the point tells as much of those that come up
abbrev pub SameCount : Type 0
SameCount = (log : Log) (k : ℕ) (pasts : List (List (List Span))) (a b : List (List (Option ℤ))) → ArePastsAt log k pasts → AreSameFor pasts a b → AreAheadsOf log.specs b → AreAheadsFor log k a → AreAheadsFor log k b
