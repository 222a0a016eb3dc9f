use Rattle.outside.specs.Parts.{texts}
use Rattle.outside.proofs.PutsFacts.{front-stopped, puts-then}
use Rattle.report_text.specs.Refusals.{refused}
use Rattle.report_text.proofs.refusal.put_refused.Goals as goal

pub returns-in_err-put_head : goal.returns-in_err-put_head
returns-in_err-put_head g c = front-stopped _ _ (refused c.args.line) (texts c.args.reason.now) _ c.from_residual.ensures.0 c.in_err-put_head.ensures

pub returns : goal.returns
returns g c =
    puts-then _ _ _ (refused c.args.line) (texts c.args.reason.now) c.put_parts.result c.in_ok-put_head.ensures c.put_parts.ensures
