use Rattle.std.proofs.Common.{get_or}
use Rattle.outside.proofs.PutsFacts.{going-end, going-on, going-stopped}
use Rattle.report_text.specs.Audit.{audit_line_text, lines_text}
use Rattle.report_text.proofs.VerdictLines.{lines_next, lines_over, no_line}
use Rattle.report_text.proofs.verdicts.put_each.Goals as goal

pub returns-in_err-put_audit_line : goal.returns-in_err-put_audit_line
returns-in_err-put_audit_line g c =
    let next = lines_next c.args.config.now.window c.args.lines.now c.loop-line.line-index c.loop-line-test.true in
    going-stopped _ _ _ (lines_text c.args.config.now.window c.args.lines.now) (audit_line_text c.args.config.now.window (get_or c.args.lines.now c.loop-line.line-index no_line)) _ _
    c.from_residual.ensures.0 (rw next at c.loop-line.invariant) c.in_err-put_audit_line.ensures

pub loop-line-preserved : goal.loop-line-preserved
loop-line-preserved g c =
    let next = lines_next c.args.config.now.window c.args.lines.now c.loop-line.line-index c.loop-line-test.true in
    going-on _ _ _ (lines_text c.args.config.now.window c.args.lines.now) (audit_line_text c.args.config.now.window (get_or c.args.lines.now c.loop-line.line-index no_line)) _
    (rw next at c.loop-line.invariant) c.in_ok-put_audit_line.ensures

pub returns : goal.returns
returns g c =
    going-end _ _ (lines_text c.args.config.now.window c.args.lines.now)
    (rw (lines_over c.args.config.now.window c.args.lines.now c.loop-line.line-index c.loop-line-test.false) at c.loop-line.invariant)
