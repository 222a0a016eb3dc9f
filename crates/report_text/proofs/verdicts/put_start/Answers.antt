use Rattle.outside.proofs.PutsFacts.{front-stopped, puts-then}
use Rattle.report_text.specs.Heads.{audit_head}
use Rattle.report_text.specs.Audit.{counts_text}
use Rattle.report_text.proofs.verdicts.put_start.Goals as goal

pub returns-in_err-put_audit_head : goal.returns-in_err-put_audit_head
returns-in_err-put_audit_head g c = front-stopped _ _ (audit_head c.args.line) (counts_text c.args.config.now.specs c.args.rules.now c.args.total.now.rules) _ c.from_residual.ensures.0 c.in_err-put_audit_head.ensures

pub returns : goal.returns
returns g c = puts-then _ _ _ (audit_head c.args.line) (counts_text c.args.config.now.specs c.args.rules.now c.args.total.now.rules) c.put_audit_counts.result c.in_ok-put_audit_head.ensures c.put_audit_counts.ensures
