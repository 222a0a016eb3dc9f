use Rattle.outside.proofs.PutsFacts.{front-stopped, puts-then}
use Rattle.report_text.specs.Audit.{audit_start, lines_text}
use Rattle.report_text.proofs.verdicts.put_audit.Goals as goal

pub returns-in_err-put_start : goal.returns-in_err-put_start
returns-in_err-put_start g c = front-stopped _ _ (audit_start c.args.line c.args.config.now.specs c.args.rules.now c.args.total.now.rules) (lines_text c.args.config.now.window c.args.lines.now) _ c.from_residual.ensures.0 c.in_err-put_start.ensures

pub returns : goal.returns
returns g c = puts-then _ _ _ (audit_start c.args.line c.args.config.now.specs c.args.rules.now c.args.total.now.rules) (lines_text c.args.config.now.window c.args.lines.now) c.put_each.result c.in_ok-put_start.ensures c.put_each.ensures
