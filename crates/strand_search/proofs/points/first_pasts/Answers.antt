use Rattle.signal_log.proofs.Calls.{ok_both}
use Rattle.signal_log.proofs.Lawful.{starts}
use Rattle.strand_search.specs.Points.{log_alone}
use Rattle.strand_search.proofs.points.first_pasts.Goals as goal

pub returns : goal.returns
returns g c = ok_both c.start.result _ _ _ (λ p shape states. starts (log_alone c.args.spec.now c.args.store.now) p shape states) (rw c.from_ref.ensures.value at c.start.ensures.shape) (rw c.from_ref.ensures.value at c.start.ensures.states)
