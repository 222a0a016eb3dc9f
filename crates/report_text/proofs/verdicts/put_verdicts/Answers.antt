use Rattle.outside.proofs.PutsFacts.{front-stopped, puts-then}
use Rattle.report_text.specs.Heads.{verdicts_head}
use Rattle.report_text.specs.Audit.{lines_text}
use Rattle.report_text.proofs.verdicts.put_verdicts.Goals as goal

pub returns-in_err-put_verdicts_head : goal.returns-in_err-put_verdicts_head
returns-in_err-put_verdicts_head g c = front-stopped _ _ (verdicts_head c.args.line c.args.hour) (lines_text c.args.config.now.window c.args.lines.now) _ c.from_residual.ensures.0 c.in_err-put_verdicts_head.ensures

pub returns : goal.returns
returns g c = puts-then _ _ _ (verdicts_head c.args.line c.args.hour) (lines_text c.args.config.now.window c.args.lines.now) c.put_each.result c.in_ok-put_verdicts_head.ensures c.put_each.ensures
