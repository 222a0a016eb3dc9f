use Rattle.outside.proofs.PutsFacts.{front-stopped, puts-then}
use Rattle.report_text.specs.Heads.{points_head}
use Rattle.report_text.specs.Approaches.{diagrams_text}
use Rattle.report_text.proofs.diagrams.put_diagrams.Goals as goal

pub returns-in_err-put_points_head : goal.returns-in_err-put_points_head
returns-in_err-put_points_head g c = front-stopped _ _ (points_head c.args.line c.args.phase) (diagrams_text c.args.config.now c.args.diagrams.now) _ c.from_residual.ensures.0 c.in_err-put_points_head.ensures

pub returns : goal.returns
returns g c = puts-then _ _ _ (points_head c.args.line c.args.phase) (diagrams_text c.args.config.now c.args.diagrams.now) c.put_each.result c.in_ok-put_points_head.ensures c.put_each.ensures
