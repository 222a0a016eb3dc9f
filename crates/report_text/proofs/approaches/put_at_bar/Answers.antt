use Rattle.outside.proofs.PutsFacts.{front-stopped, puts-then}
use Rattle.report_text.specs.Approaches.{actuations_line, splits_line}
use Rattle.report_text.proofs.approaches.put_at_bar.Goals as goal

pub returns-in_err-put_actuations : goal.returns-in_err-put_actuations
returns-in_err-put_actuations g c = front-stopped _ _ (actuations_line c.args.name.now c.args.sums.now) (splits_line c.args.name.now c.args.splits.now) _ c.from_residual.ensures.0 c.in_err-put_actuations.ensures

pub returns : goal.returns
returns g c = puts-then _ _ _ (actuations_line c.args.name.now c.args.sums.now) (splits_line c.args.name.now c.args.splits.now) c.put_splits.result c.in_ok-put_actuations.ensures c.put_splits.ensures
