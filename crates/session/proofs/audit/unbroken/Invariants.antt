use Rattle.std.proofs.Common.{ℕ, List, take}
use Rattle.span_set.specs.declared.set.Span.{Span}
use Rattle.hour_store.specs.Store.{Store}
use Rattle.ring_config.specs.Settings.{Settings}
use Rattle.signal_log.specs.Log.{log_of}
use Rattle.rule_audit.specs.Rules.{rules_for}
use Rattle.signal_log.specs.Rows.{hour_rows}
use Rattle.session.specs.HourLines.{AreLinesIn}
use Rattle.session.specs.Windows.{AreWithWindows}
use Rattle.session.proofs.audit.unbroken.Given as goal

abbrev pub invariant-loop-line : goal.invariant-loop-line
invariant-loop-line l = (c : Settings) (s : Store) (before : List (List (List Span))) (hour : ℕ) → AreLinesIn c s hour before l.lines → AreWithWindows (log_of c.specs s) (rules_for c) (hour_rows s hour) (take l.line-index l.lines) l.done.items
