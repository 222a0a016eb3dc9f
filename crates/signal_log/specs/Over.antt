-- From one hour point to the next and back, by what is told of the hour between them, whatever the states before it and those that are admitted after it.
use Rattle.std.specs.Prelude.{◌≡◌, ℕ, ℤ, ◌+◌, ◌*◌, ◌<◌, ◌≤◌, Option, Some, None, List, is_some, length, slice_index_or}
use Rattle.span_set.specs.declared.set.Span.{Span}
use Rattle.sig_base.specs.declared.values.Row.{Row}
use Rattle.gap_map.specs.declared.stretch.Stretch.{Stretch}
use Rattle.gap_map.specs.Stretches.{IsCut, known_in}
use Rattle.channel_tables.specs.declared.spec.Spec.{Spec}
use Rattle.board.specs.declared.pasts.PastsError.{PastsError}
use Rattle.board.specs.declared.pasts.PastsError.TheVariants.{NoState, Memory}
use Rattle.board.specs.Courses.{CourseLog, course_log}
use Rattle.board.specs.Logs.{end_tenth, first_tenth, no_row}
use Rattle.board.specs.Hours.{AreClampedPasts, AreHourAheads, IsHourStop}
use Rattle.signal_log.specs.Points.{rows_or_none}

-- the stretches of an hour of which these rows are held, or which isn't held, with these blanked ranges
abbrev pub IsCutOf : ℕ → Option (List Row) → List Span → List Stretch → Type 0
IsCutOf hour rows blanks ss = IsCut (known_in (is_some rows) blanks) (36000 * hour) (36000 * hour + 36000) ss

-- these are cut out of the hour for these channels
abbrev pub AreCoursesOver : List Spec → ℕ → Option (List Row) → List Span → CourseLog → Type 0
AreCoursesOver specs hour rows blanks courses = (ss : List Stretch) → IsCutOf hour rows blanks ss → courses ≡ course_log specs (rows_or_none rows) ss

-- the first known row of the hour after which its channel has no state; without one each has some
abbrev pub StopsIn : List Spec → ℕ → Option (List Row) → List Span → List (List (List Span)) → Option ℕ → Type 0
StopsIn specs hour rows blanks before stop = (ss : List Stretch) → IsCutOf hour rows blanks ss → IsHourStop specs (rows_or_none rows) ss (first_tenth hour) (end_tenth hour) before stop

-- no known row of the hour leaves its channel without a state, and these are the states at the point after the hour, those older than an hour made one
abbrev pub ArePastsOver : List Spec → ℕ → Option (List Row) → List Span → List (List (List Span)) → List (List (List Span)) → Type 0
ArePastsOver specs hour rows blanks before pasts = StopsIn specs hour rows blanks before None × ((ss : List Stretch) → IsCutOf hour rows blanks ss → AreClampedPasts specs (rows_or_none rows) ss (first_tenth hour) (end_tenth hour) before pasts)

-- these admit, of each channel, the states entered before the hour from which some run of it that agrees leads to one that these admit at the point after it
abbrev pub AreAheadsOver : List Spec → ℕ → Option (List Row) → List Span → List (List (Option ℤ)) → List (List (Option ℤ)) → Type 0
AreAheadsOver specs hour rows blanks after aheads = (ss : List Stretch) → IsCutOf hour rows blanks ss → AreHourAheads specs (rows_or_none rows) ss (first_tenth hour) (end_tenth hour) after (length specs) aheads

-- the row is the hour's first known one after which its channel has no state
pub record IsStopOver (specs : List Spec) (hour : ℕ) (rows : Option (List Row)) (blanks : List Span) (before : List (List (List Span))) (row : Row) : Type 0 where
  pub place : ℕ
  pub within : place < length (rows_or_none rows)
  pub is : row ≡ slice_index_or (rows_or_none rows) place no_row
  pub low : first_tenth hour ≤ row.at
  pub high : row.at < first_tenth (hour + 1)
  pub stops : StopsIn specs hour rows blanks before (Some place)

-- an error that isn't that memory ran out names that row
abbrev pub NamesStopOver : List Spec → ℕ → Option (List Row) → List Span → List (List (List Span)) → PastsError → Type 0
NamesStopOver specs hour rows blanks before (NoState row) = IsStopOver specs hour rows blanks before row
NamesStopOver specs hour rows blanks before Memory = Unit {0}
