use Rattle.outside.proofs.PutsFacts.{front-stopped, puts-then}
use Rattle.report_text.specs.Rules.{bound_text, coloured_text}
use Rattle.report_text.proofs.rules.put_interval.Goals as goal

pub returns-in_err-put_coloured : goal.returns-in_err-put_coloured
returns-in_err-put_coloured g c =
    rw c.in-Some.is (front-stopped _ _ (coloured_text c.in-Some.spec.now.channel c.args.item.colour) (bound_text c.args.item.bound) _ c.from_residual.ensures.0 c.in_err-put_coloured.ensures)

pub returns : goal.returns
returns g c =
    rw c.in-Some.is (puts-then _ _ _ (coloured_text c.in-Some.spec.now.channel c.args.item.colour) (bound_text c.args.item.bound) c.put_bound.result c.in_ok-put_coloured.ensures c.put_bound.ensures)
