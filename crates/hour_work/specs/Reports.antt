-- The report of a store.
use Rattle.std.specs.Prelude.{◌≡◌, ◌+◌, ◌*◌, ◌<◌, ℕ, ℤ, true, List, Option, None, Some, length, is_some, slice_index_or}
use Rattle.sig_base.specs.declared.values.Row.{Row}
use Rattle.span_set.specs.declared.set.Span.{Span}
use Rattle.gap_map.specs.declared.stretch.Stretch.{Stretch}
use Rattle.gap_map.specs.Stretches.{IsCut, known_in}
use Rattle.board.specs.Courses.{CourseLog, course_log}
use Rattle.board.specs.Logs.{HourLog, hour_log}
use Rattle.board.specs.Places.{IsViewOf}
use Rattle.hour_store.specs.Store.{Store, count_in, held_at, is_known, rows_at}
use Rattle.sig_base.specs.HourRows.{AreRowsOf}
use Rattle.ring_config.specs.Settings.{Settings}
use Rattle.ring_config.specs.Sound.{IsSound}
use Rattle.signal_log.specs.Log.{HasHistory, log_of}
use Rattle.signal_log.specs.Opened.{Opened}
use Rattle.signal_log.specs.Points.{HasHour, rows_or_none}
use Rattle.service_cut.specs.Cut.{CutLists, IsCut as IsCutOf}
use Rattle.detector_state.specs.declared.part.Part.{Part}
use Rattle.stop_bar.specs.All.{AreTold, IsHourHeld}
use Rattle.rule_audit.specs.declared.lines.AuditLine.{AuditLine}
use Rattle.rule_audit.specs.Rules.{rules_for}
use Rattle.hour_work.specs.Numbers.{Numbers, count_in_hour}
use Rattle.hour_sweep.specs.Sums.{one_if}
use Rattle.hour_work.specs.Counts.{counts_of}
use Rattle.hour_work.specs.Points.{Carried, IsCarryAt, IsFutureFor}
use Rattle.hour_work.specs.Verdicts.{AreAuditLines}
use Rattle.hour_work.specs.Measures.{AreMeasures}
use Rattle.hour_work.specs.Rows.{earlier_rows}

-- the numbers of an hour of a store: its rows count at blanked tenths too, each of its tenths counts where it is known, each rule has the counts of the hour's audit lines, and the measures are those of the hour
pub record IsHourPart (c : Settings) (s : Store) (hour : ℕ) (p : Numbers) : Type 0 where
  pub held_hours : p.held_hours ≡ one_if (is_some (held_at s hour))
  pub held_rows : p.held_rows ≡ count_in (held_at s hour)
  pub known_tenths : p.known_tenths ≡ count_in_hour (is_known s) hour
  pub lines : List AuditLine
  pub are_lines : AreAuditLines c s hour lines
  pub rules : p.rules ≡ counts_of (length (rules_for c)) lines
  pub measures : AreMeasures c s hour p.splits p.failures p.others p.arrivals

-- the report of a store: the numbers of each of its hours
pub record IsReport (c : Settings) (s : Store) (all : List Numbers) : Type 0 where
  pub size : length all ≡ length s.hours
  pub each : (hour : ℕ) (d : Numbers) → hour < length s.hours → IsHourPart c s hour (slice_index_or all hour d)

-- these are the rows and the blanked tenths of an hour of the store, what it says at the point before the hour, and, of the states that come up at the point after it, those with which it can be completed; some history agrees with it
pub record IsHourBetween (c : Settings) (s : Store) (hour : ℕ) (before : Carried) (rows : Option (List Row)) (blanks : List Span) (after : List (List (Option ℤ))) : Type 0 where
  pub has_hour : HasHour s hour rows blanks
  pub is_before : IsCarryAt c s hour before
  pub is_after : IsFutureFor c s (hour + 1) after
  pub history : HasHistory (log_of c.specs s)

-- of a held hour of the store, under a configuration that can be read: it is cut into these stretches, and this is the view of it between what the store says at the points before and after it
pub record IsHourSeen (c : Settings) (s : Store) (hour : ℕ) (before : Carried) (rows : List Row) (ss : List Stretch) (view : HourLog) : Type 0 where
  pub sound : IsSound c
  pub blanks : List Span
  pub after : List (List (Option ℤ))
  pub between : IsHourBetween c s hour before (Some rows) blanks after
  pub cut : IsCut (known_in true blanks) (36000 * hour) (36000 * hour + 36000) ss
  pub is_view : IsViewOf (hour_log hour c.specs rows ss before.pasts after) view

-- an hour of the store with these rows, none where it isn't held, and these stretches, what the store says at the point before it, and what service_cut lists of it
pub record IsHourCut (c : Settings) (s : Store) (hour : ℕ) (before : Carried) (rows : List Row) (ss : List Stretch) (cuts : CutLists) : Type 0 where
  pub sound : IsSound c
  pub held : Option (List Row)
  pub blanks : List Span
  pub is_rows : rows ≡ rows_or_none held
  pub are_rows : AreRowsOf hour rows
  pub has_hour : HasHour s hour held blanks
  pub cut : IsCut (known_in (is_some held) blanks) (36000 * hour) (36000 * hour + 36000) ss
  pub is_before : IsCarryAt c s hour before
  pub lists : IsCutOf (is_known s) c.phases (earlier_rows s hour) hour rows cuts

-- the same three of an hour that is opened
abbrev pub IsBetweenAt : Settings → Store → Opened → Carried → List (List (Option ℤ)) → Type 0
IsBetweenAt c s o before after = IsHourBetween c s o.hour before o.rows o.blanks after

abbrev pub IsSeenAt : Settings → Store → Opened → Carried → HourLog → Type 0
IsSeenAt c s o before view = IsHourSeen c s o.hour before (rows_or_none o.rows) o.stretches view

abbrev pub IsCutAtPlace : Settings → Store → Opened → Carried → CutLists → Type 0
IsCutAtPlace c s o before cuts = IsHourCut c s o.hour before (rows_or_none o.rows) o.stretches cuts

-- the view of an hour that is opened, where the store holds the hour; no view where it doesn't
abbrev pub IsSeenBy : Settings → Store → Opened → Carried → Option HourLog → Type 0
IsSeenBy c s o before (Some view) = IsSeenAt c s o before view
IsSeenBy c s o before None = rows_at s o.hour ≡ None

-- For contracts alone: the courses of the opened hour.
abbrev pub courses_at : Settings → Opened → CourseLog
courses_at c o = course_log c.specs (rows_or_none o.rows) o.stretches

-- For contracts alone: these are the tenths of the detectors of the stop bars in the opened hour of each store of which this is said at the point before it.
abbrev pub AreToldAt : Settings → Opened → Carried → List (List Part) → Type 0
AreToldAt c o before told = (s : Store) → IsHourHeld c s o.hour (rows_or_none o.rows) o.stretches before.pasts → AreTold (log_of c.specs s) c o.hour told
