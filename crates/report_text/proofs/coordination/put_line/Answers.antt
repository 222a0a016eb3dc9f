use Rattle.outside.proofs.PutsFacts.{front-stopped, puts-then}
use Rattle.report_text.specs.Measures.{coordination_rows, coordination_states}
use Rattle.report_text.proofs.LineParts.{coordination_parts}
use Rattle.report_text.proofs.coordination.put_line.Goals as goal

pub returns-in_err-put_states : goal.returns-in_err-put_states
returns-in_err-put_states g c = rw (← coordination_parts c.args.sums.now) (front-stopped _ _ (coordination_states c.args.sums.now) (coordination_rows c.args.sums.now) _ c.from_residual.ensures.0 c.in_err-put_states.ensures)

pub returns : goal.returns
returns g c = rw (← coordination_parts c.args.sums.now) (puts-then _ _ _ (coordination_states c.args.sums.now) (coordination_rows c.args.sums.now) c.put_rows.result c.in_ok-put_states.ensures c.put_rows.ensures)
