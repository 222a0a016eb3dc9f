-- What is kept of a store: at each hour point, and of each hour.
use Rattle.std.specs.Prelude.{◌≡◌, ◌+◌, ◌≤◌, ◌<◌, ◌⊎◌, ℕ, ℤ, Bool, true, false, List, [], Option, length, slice_index_or}
use Rattle.sig_base.specs.declared.values.Row.{Row}
use Rattle.span_set.specs.declared.set.Span.{Span}
use Rattle.hour_store.specs.Store.{Store, rows_at}
use Rattle.board.specs.Courses.{CourseLog}
use Rattle.board.specs.Logs.{first_tenth}
use Rattle.board.specs.Places.{AllEarly, AreAheadsOf}
use Rattle.board.specs.Stops.{AreBefore}
use Rattle.ring_config.specs.Settings.{Settings}
use Rattle.signal_log.specs.Over.{AreCoursesOver, ArePastsOver}
use Rattle.signal_log.specs.Log.{log_of}
use Rattle.signal_log.specs.Points.{ArePastsAt, HasHour}
use Rattle.hour_work.specs.Numbers.{Numbers}
use Rattle.hour_work.specs.Points.{Carried, ComesBack, GoesOver, IsCarryAt, IsFutureAt}
use Rattle.hour_work.specs.Reports.{IsHourBetween, IsHourPart}

-- what is kept at an hour point of the hours after it
abbrev pub Ahead : Type 0
Ahead = List (List (Option ℤ))

-- the states of each channel at an hour point
abbrev pub States : Type 0
States = List (List (List Span))

-- by what this store has of the hour, the states at the point before it lead to those at the point after it
pub record StatesLead (c : Settings) (s : Store) (hour : ℕ) (before after : States) : Type 0 where
  pub over : ArePastsOver c.specs hour (rows_at s hour) s.blanks before after
  pub shape : AreBefore c.specs after
  pub early : AllEarly (first_tenth (hour + 1)) after

-- these are the courses of the configuration's channels in the hour
abbrev pub HasCourses : Settings → Store → ℕ → CourseLog → Type 0
HasCourses c s hour courses = AreCoursesOver c.specs hour (rows_at s hour) s.blanks courses

-- the hour was gone over forward by these courses of it, from these states before it to those after it
pub record IsGone (c : Settings) (s : Store) (hour : ℕ) (courses : CourseLog) (before after : States) : Type 0 where
  pub cut : HasCourses c s hour courses
  pub begun : ArePastsAt (log_of c.specs s) hour before
  pub leads : StatesLead c s hour before after

-- in every store that has the hour so: where this is what it says up to the point before the hour, that is what it says up to the point after it; and by what is told of the hour its states lead there
pub record Leads (c : Settings) (hour : ℕ) (rows : Option (List Row)) (blanks : List Span) (before after : Carried) : Type 0 where
  pub stays : (r : Store) → HasHour r hour rows blanks → IsCarryAt c r hour before → IsCarryAt c r (hour + 1) after
  pub over : GoesOver c hour rows blanks before after

-- the same back, from the point after the hour to the one before it
pub record Backs (c : Settings) (hour : ℕ) (rows : Option (List Row)) (blanks : List Span) (after before : Ahead) : Type 0 where
  pub stays : (r : Store) → HasHour r hour rows blanks → IsFutureAt c r (hour + 1) after → IsFutureAt c r hour before
  pub over : ComesBack c hour rows blanks after before

-- in every store that has the hour so, between what it says at both points, these are the numbers of the hour
abbrev pub Counts : Settings → ℕ → Option (List Row) → List Span → Carried → Ahead → Numbers → Type 0
Counts c hour rows blanks before after p = (r : Store) → IsHourBetween c r hour before rows blanks after → IsHourPart c r hour p

-- what is kept at the points about an hour fits the hour as this store has it
abbrev pub LeadsAt : Settings → Store → List Carried → ℕ → Type 0
LeadsAt c s carries k = (d : Carried) → Leads c k (rows_at s k) s.blanks (slice_index_or carries k d) (slice_index_or carries (k + 1) d)

abbrev pub StatesLeadAt : Settings → Store → List States → ℕ → Type 0
StatesLeadAt c s states k = StatesLead c s k (slice_index_or states k []) (slice_index_or states (k + 1) [])

abbrev pub BacksAt : Settings → Store → List Ahead → ℕ → Type 0
BacksAt c s futures k = (d : Ahead) → Backs c k (rows_at s k) s.blanks (slice_index_or futures (k + 1) d) (slice_index_or futures k d)

abbrev pub CountsAt : Settings → Store → List Carried → List Ahead → List Numbers → ℕ → Type 0
CountsAt c s carries futures parts k = (d : Carried) (e : Ahead) (f : Numbers) → Counts c k (rows_at s k) s.blanks (slice_index_or carries k d) (slice_index_or futures (k + 1) e) (slice_index_or parts k f)

-- what is kept at each hour point of the hours before it, from the window's start on
pub record AreCarries (c : Settings) (s : Store) (carries : List Carried) : Type 0 where
  pub size : length carries ≡ length s.hours + 1
  pub start : (d : Carried) (r : Store) → IsCarryAt c r 0 (slice_index_or carries 0 d)
  pub leads : (k : ℕ) → k < length s.hours → LeadsAt c s carries k

-- what is kept at each hour point of the hours after it, back from the window's end
pub record AreFutures (c : Settings) (s : Store) (futures : List Ahead) : Type 0 where
  pub size : length futures ≡ length s.hours + 1
  pub end : (d : Ahead) (r : Store) → length r.hours ≡ length s.hours → IsFutureAt c r (length s.hours) (slice_index_or futures (length s.hours) d)
  pub backs : (k : ℕ) → k < length s.hours → BacksAt c s futures k

-- the numbers of the hour wait to be worked out
abbrev pub waits : List Bool → ℕ → Bool
waits waiting hour = slice_index_or waiting hour false

-- those of no hour wait
abbrev pub AllSettled : List Bool → Type 0
AllSettled waiting = (hour : ℕ) → waits waiting hour ≡ false

-- no numbers wait, and none may
abbrev pub IsKeptPlain : Bool → List Bool → Type 0
IsKeptPlain may_wait waiting = (may_wait ≡ false) × AllSettled waiting

-- those of the hours from `from` up to `to` wait, or don't, and those of all others as before
pub record AreMarked (from to : ℕ) (value : Bool) (old new : List Bool) : Type 0 where
  pub size : length new ≡ length old
  pub within : (hour : ℕ) → from ≤ hour → hour < to → waits new hour ≡ value
  pub outside : (hour : ℕ) → (hour < from) ⊎ (to ≤ hour) → waits new hour ≡ waits old hour

-- what is kept at each hour point, and the numbers of each hour that don't wait
pub record AreKept (c : Settings) (s : Store) (waiting : List Bool) (carries : List Carried) (futures : List Ahead) (parts : List Numbers) : Type 0 where
  pub forth : AreCarries c s carries
  pub back : AreFutures c s futures
  pub size : length parts ≡ length s.hours
  pub room : length waiting ≡ length s.hours
  pub counts : (k : ℕ) → k < length s.hours → waits waiting k ≡ false → CountsAt c s carries futures parts k

-- ---- while an edit is made

-- an hour before `first` or after `last`
abbrev pub Apart : ℕ → ℕ → ℕ → Type 0
Apart first last k = (k < first) ⊎ (last < k)

-- the hour is told to be as it was
abbrev pub is_as_was : List Bool → ℕ → Bool
is_as_was same hour = slice_index_or same hour false

-- an hour before `first` or after `last`, or one that is told to be as it was
abbrev pub Stays : ℕ → ℕ → List Bool → ℕ → Type 0
Stays first last same k = Apart first last k ⊎ (is_as_was same k ≡ true)

-- the same, but at the hours from `first` to `last` it need not fit
pub record AreCarriesBut (c : Settings) (s : Store) (first last : ℕ) (carries : List Carried) : Type 0 where
  pub size : length carries ≡ length s.hours + 1
  pub start : (d : Carried) (r : Store) → IsCarryAt c r 0 (slice_index_or carries 0 d)
  pub leads : (k : ℕ) → k < length s.hours → Apart first last k → LeadsAt c s carries k

pub record AreFuturesBut (c : Settings) (s : Store) (first last : ℕ) (futures : List Ahead) : Type 0 where
  pub size : length futures ≡ length s.hours + 1
  pub end : (d : Ahead) (r : Store) → length r.hours ≡ length s.hours → IsFutureAt c r (length s.hours) (slice_index_or futures (length s.hours) d)
  pub backs : (k : ℕ) → k < length s.hours → Apart first last k → BacksAt c s futures k

pub record AreKeptBut (c : Settings) (s : Store) (first last : ℕ) (waiting : List Bool) (carries : List Carried) (futures : List Ahead) (parts : List Numbers) : Type 0 where
  pub order : first ≤ last
  pub within : last < length s.hours
  pub forth : AreCarriesBut c s first last carries
  pub back : AreFuturesBut c s first last futures
  pub shapes : (k : ℕ) (d : Ahead) → k ≤ length s.hours → AreAheadsOf c.specs (slice_index_or futures k d)
  pub size : length parts ≡ length s.hours
  pub room : length waiting ≡ length s.hours
  pub counts : (k : ℕ) → k < length s.hours → Apart first last k → waits waiting k ≡ false → CountsAt c s carries futures parts k

-- at the hours that are told to be as they were it fits all the same
abbrev pub CarriesFit : Settings → Store → List Bool → List Carried → Type 0
CarriesFit c s same carries = (k : ℕ) → k < length s.hours → is_as_was same k ≡ true → LeadsAt c s carries k

abbrev pub FuturesFit : Settings → Store → List Bool → List Ahead → Type 0
FuturesFit c s same futures = (k : ℕ) → k < length s.hours → is_as_was same k ≡ true → BacksAt c s futures k

pub record AreKeptAt (c : Settings) (s : Store) (same waiting : List Bool) (carries : List Carried) (futures : List Ahead) (parts : List Numbers) : Type 0 where
  pub forth : CarriesFit c s same carries
  pub back : FuturesFit c s same futures
  pub counts : (k : ℕ) → k < length s.hours → is_as_was same k ≡ true → waits waiting k ≡ false → CountsAt c s carries futures parts k
