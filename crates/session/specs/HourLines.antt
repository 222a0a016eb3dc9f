-- The lines of an hour of the store, before and after their windows are looked for.
use Rattle.std.specs.Prelude.{◌≡◌, ◌<◌, ◌/◌, ℕ, true, false, List, Option, All, length, slice_index_or}
use Rattle.span_set.specs.declared.set.Span.{Span}
use Rattle.hour_store.specs.Store.{Store}
use Rattle.ring_config.specs.Settings.{Settings}
use Rattle.signal_log.specs.Log.{log_of}
use Rattle.signal_log.specs.Points.{ArePastsAt}
use Rattle.rule_audit.specs.declared.lines.AuditLine.{AuditLine}
use Rattle.rule_audit.specs.Rules.{rules_for}
use Rattle.decisive.specs.Window.{IsBrokenLine}
use Rattle.signal_log.specs.Rows.{hour_rows}
use Rattle.filling_pair.specs.Asks.{IsUndecided}
use Rattle.filling_pair.specs.Kept.{IsLineOf}
use Rattle.hour_work.specs.Counts.{is_broken, is_undecided}
use Rattle.session.specs.Windows.{AreWithWindows, HasWindow}

-- the line is of one of the rules, at a tenth of the hour; where it says broken its obligation is broken over the whole log, and where it says undecided it is undecided
pub record IsLineIn (c : Settings) (s : Store) (hour : ℕ) (line : AuditLine) : Type 0 where
  pub in_hour : line.at / 36000 ≡ hour
  pub of_rule : IsLineOf s (rules_for c) line
  pub broken : is_broken line.verdict ≡ true → IsBrokenLine (log_of c.specs s) (rules_for c) (hour_rows s hour) line
  pub undecided : is_undecided line.verdict ≡ true → IsUndecided c.specs s (rules_for c) line

-- all these lines are of the hour, before which the channels have these states
pub record AreLinesIn (c : Settings) (s : Store) (hour : ℕ) (before : List (List (List Span))) (lines : List AuditLine) : Type 0 where
  pub pasts : ArePastsAt (log_of c.specs s) hour before
  pub each : All (IsLineIn c s hour) lines

-- the line is of its own hour, before which the channels have these states
abbrev pub IsLineAfter : Settings → Store → List (List (List Span)) → AuditLine → Type 0
IsLineAfter c s before line = ArePastsAt (log_of c.specs s) (line.at / 36000) before × IsLineIn c s (line.at / 36000) line

-- the line's window, by the rows of its own hour
abbrev pub HasOwnWindow : Settings → Store → AuditLine → Option (ℕ × ℕ) → Type 0
HasOwnWindow c s line w = HasWindow (log_of c.specs s) (rules_for c) (hour_rows s (line.at / 36000)) line w

-- the second lines are the first ones with their windows, whatever the hour is of which the first ones are
abbrev pub AreWindowed : Settings → Store → List (List (List Span)) → List AuditLine → List AuditLine → Type 0
AreWindowed c s before plain lines = (hour : ℕ) → AreLinesIn c s hour before plain → AreWithWindows (log_of c.specs s) (rules_for c) (hour_rows s hour) plain lines

-- no line is broken
abbrev pub NoneBroken : List AuditLine → Type 0
NoneBroken lines = (i : ℕ) (d : AuditLine) → i < length lines → is_broken (slice_index_or lines i d).verdict ≡ false

-- a broken line is of the hour
abbrev pub IsBrokenHour : List AuditLine → ℕ → Type 0
IsBrokenHour lines hour = (i : ℕ) × (i < length lines) × ((d : AuditLine) → (is_broken (slice_index_or lines i d).verdict ≡ true) × ((slice_index_or lines i d).at / 36000 ≡ hour))
