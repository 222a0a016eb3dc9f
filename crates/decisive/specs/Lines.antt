-- The window of a line of an audit.
use Rattle.std.specs.Prelude.{◌≡◌, ℕ, ◌+◌, ◌/◌, ◌<◌, List, length}
use Rattle.sig_base.specs.declared.values.Row.{Row}
use Rattle.hour_store.specs.Store.{IsStore, Store}
use Rattle.channel_tables.specs.declared.spec.Spec.{Spec}
use Rattle.board.specs.Courses.{AreCourses}
use Rattle.board.specs.Logs.{first_tenth}
use Rattle.board.specs.Moves.{count_before}
use Rattle.board.specs.Places.{upto}
use Rattle.signal_log.specs.Log.{log_of}
use Rattle.signal_log.specs.Points.{ArePastsAt}
use Rattle.ring_config.specs.Settings.{Settings}
use Rattle.rule_audit.specs.declared.lines.AuditLine.{AuditLine}
use Rattle.rule_audit.specs.declared.lines.Place.{Place}
use Rattle.rule_audit.specs.declared.lines.Place.TheVariants.{BeforeRow, EndOfTenth}
use Rattle.rule_audit.specs.declared.rules.Rule.{Rule}
use Rattle.decisive.specs.declared.hours.HourMoves.{HourMoves}
use Rattle.decisive.specs.declared.judge.Question.{Question}
use Rattle.decisive.specs.Laws.{TellsOf, rows_to}
use Rattle.decisive.specs.Searches.{IsBeginAt}
use Rattle.signal_log.specs.Rows.{hour_rows}
use Rattle.decisive.specs.Window.{IsBrokenLine, IsDecisive, obligation_of}

-- the rows of the line's hour
abbrev pub rows_of_line : Store → AuditLine → List Row
rows_of_line s line = hour_rows s (line.at / 36000)

-- the line is a broken one of this store
abbrev pub IsBrokenIn : Settings → Store → List Rule → AuditLine → Type 0
IsBrokenIn c s rules line = IsBrokenLine (log_of c.specs s) rules (rows_of_line s line) line

-- from tenth u to tenth v is its decisive window
abbrev pub IsWindowIn : Settings → Store → List Rule → AuditLine → ℕ → ℕ → Type 0
IsWindowIn c s rules line u v = IsDecisive (log_of c.specs s) (rows_of_line s line) (obligation_of rules line) u v

-- what is told of an hour of the store, cut into the moves of each channel, and the states at the point before it
pub record AreHourMoves (specs : List Spec) (s : Store) (hour : ℕ) (m : HourMoves) : Type 0 where
  pub is_store : IsStore s
  pub within : hour < length s.hours
  pub pasts : ArePastsAt (log_of specs s) hour m.before.now
  pub tells : (some : List Spec) → TellsOf (log_of some s) m.rows.now m.stretches.items (first_tenth hour) (first_tenth (hour + 1))
  pub of_hour : m.rows.now ≡ hour_rows s hour
  pub of_channels : AreCourses specs m.rows.now m.stretches.items m.courses.items

-- after how many of the rows the place is
abbrev pub place_in : List Row → ℕ → Place → ℕ
place_in rows x (BeforeRow n) = n
place_in rows x EndOfTenth = count_before (x + 1) rows

-- of the hour's tenths up to the question's own those from u on break it, and none from a later candidate on do
abbrev pub IsHourBegin : Question → HourMoves → Place → ℕ → Type 0
IsHourBegin q m place u = IsBeginAt q.specs.now q.parts.now q.at (rows_to q.at m.rows.now) (upto q.at m.stretches.items) (place_in m.rows.now q.at place) u
