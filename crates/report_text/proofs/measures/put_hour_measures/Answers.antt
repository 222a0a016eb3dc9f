use Rattle.outside.proofs.PutsFacts.{front-stopped, puts-then}
use Rattle.report_text.specs.Heads.{hour_head}
use Rattle.report_text.specs.Measures.{measures_text}
use Rattle.report_text.proofs.measures.put_hour_measures.Goals as goal

pub returns-in_err-put_hour_head : goal.returns-in_err-put_hour_head
returns-in_err-put_hour_head g c = front-stopped _ _ (hour_head c.args.line c.args.hour) (measures_text c.args.config.now c.args.part.now) _ c.from_residual.ensures.0 c.in_err-put_hour_head.ensures

pub returns : goal.returns
returns g c = puts-then _ _ _ (hour_head c.args.line c.args.hour) (measures_text c.args.config.now c.args.part.now) c.put_measures.result c.in_ok-put_hour_head.ensures c.put_measures.ensures
