use Rattle.outside.proofs.PutsFacts.{front-stopped, puts-then}
use Rattle.report_text.specs.Measures.{ped_delays, ped_states}
use Rattle.report_text.proofs.LineParts.{ped_parts}
use Rattle.report_text.proofs.peds.put_ped.Goals as goal

pub returns-in_err-put_delays : goal.returns-in_err-put_delays
returns-in_err-put_delays g c = rw (← ped_parts c.args.number c.args.sums.now) (front-stopped _ _ (ped_delays c.args.number c.args.sums.now) (ped_states c.args.sums.now) _ c.from_residual.ensures.0 c.in_err-put_delays.ensures)

pub returns : goal.returns
returns g c = rw (← ped_parts c.args.number c.args.sums.now) (puts-then _ _ _ (ped_delays c.args.number c.args.sums.now) (ped_states c.args.sums.now) c.put_states.result c.in_ok-put_delays.ensures c.put_states.ensures)
