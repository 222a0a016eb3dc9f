use Rattle.std.proofs.Common.{None}
use Rattle.signal_log.specs.Log.{log_of}
use Rattle.rule_audit.specs.Rules.{rules_for}
use Rattle.signal_log.specs.Rows.{hour_rows}
use Rattle.session.proofs.WindowLaws.{no_line, none_yet, windows_turn}
use Rattle.session.proofs.audit.unbroken.Goals as goal

pub loop-line-init : goal.loop-line-init
loop-line-init c = λ config s before hour are. none_yet (log_of config.specs s) (rules_for config) (hour_rows s hour) c.new-done.result.items c.new-done.ensures.items

pub loop-line-preserved : goal.loop-line-preserved
loop-line-preserved c = λ config s before. windows_turn config s before c.args.lines.now c.loop-line.line-index c.loop-line.done.items c.push.new.self.items None c.loop-line-test.true (c.loop-line.invariant config s before) (c.requires c.loop-line.line-index no_line c.loop-line-test.true) c.in_ok-push.ensures.items
