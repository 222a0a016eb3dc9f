use Rattle.outside.proofs.PutsFacts.{front-stopped, puts-then}
use Rattle.report_text.specs.Measures.{phase_ends, phase_splits}
use Rattle.report_text.proofs.LineParts.{phase_parts}
use Rattle.report_text.proofs.phases.put_phase.Goals as goal

pub returns-in_err-put_splits : goal.returns-in_err-put_splits
returns-in_err-put_splits g c = rw (← phase_parts c.args.number c.args.sums.now) (front-stopped _ _ (phase_splits c.args.number c.args.sums.now) (phase_ends c.args.sums.now) _ c.from_residual.ensures.0 c.in_err-put_splits.ensures)

pub returns : goal.returns
returns g c = rw (← phase_parts c.args.number c.args.sums.now) (puts-then _ _ _ (phase_splits c.args.number c.args.sums.now) (phase_ends c.args.sums.now) c.put_ends.result c.in_ok-put_splits.ensures c.put_ends.ensures)
