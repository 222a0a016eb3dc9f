use Rattle.std.proofs.Common.{ℕ, List, take}
use Rattle.span_set.specs.declared.set.Span.{Span}
use Rattle.signal_log.specs.Log.{log_of}
use Rattle.rule_audit.specs.Rules.{rules_for}
use Rattle.signal_log.specs.Rows.{hour_rows}
use Rattle.session.specs.HourLines.{AreLinesIn}
use Rattle.sig_base.specs.Reads.{Grow}
use Rattle.session.specs.Windows.{AreWithWindows}
use Rattle.session.proofs.audit.windowed.Given as goal

abbrev pub invariant-loop-line : goal.invariant-loop-line
invariant-loop-line g l = record {
  windows : (before : List (List (List Span))) (hour : ℕ) → AreLinesIn l.config l.store hour before l.lines → AreWithWindows (log_of l.config.specs l.store) (rules_for l.config) (hour_rows l.store hour) (take l.line-index l.lines) l.done.items;
  grow : Grow l.fn.reads l.reads;
}
