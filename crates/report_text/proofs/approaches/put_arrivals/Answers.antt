use Rattle.outside.proofs.PutsFacts.{front-stopped, puts-then}
use Rattle.report_text.specs.Approaches.{arrival_counts, arrival_shares}
use Rattle.report_text.proofs.LineParts.{arrivals_parts}
use Rattle.report_text.proofs.approaches.put_arrivals.Goals as goal

pub returns-in_err-put_counts : goal.returns-in_err-put_counts
returns-in_err-put_counts g c = rw (← arrivals_parts c.args.name.now c.args.sums.now) (front-stopped _ _ (arrival_counts c.args.name.now c.args.sums.now) (arrival_shares c.args.sums.now) _ c.from_residual.ensures.0 c.in_err-put_counts.ensures)

pub returns : goal.returns
returns g c = rw (← arrivals_parts c.args.name.now c.args.sums.now) (puts-then _ _ _ (arrival_counts c.args.name.now c.args.sums.now) (arrival_shares c.args.sums.now) c.put_shares.result c.in_ok-put_counts.ensures c.put_shares.ensures)
