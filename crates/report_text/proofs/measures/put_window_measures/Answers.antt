use Rattle.outside.proofs.PutsFacts.{front-stopped, puts-then}
use Rattle.report_text.specs.Heads.{window_head}
use Rattle.report_text.specs.Measures.{measures_text}
use Rattle.report_text.proofs.measures.put_window_measures.Goals as goal

pub returns-in_err-put_window_head : goal.returns-in_err-put_window_head
returns-in_err-put_window_head g c = front-stopped _ _ (window_head c.args.line) (measures_text c.args.config.now c.args.total.now) _ c.from_residual.ensures.0 c.in_err-put_window_head.ensures

pub returns : goal.returns
returns g c = puts-then _ _ _ (window_head c.args.line) (measures_text c.args.config.now c.args.total.now) c.put_measures.result c.in_ok-put_window_head.ensures c.put_measures.ensures
