use Rattle.sigaudit.proofs.StopFacts.{fault_at}
use Rattle.sigaudit.proofs.one_run.show_usage.Goals as goal

pub returns-in_err-put_usage : goal.returns-in_err-put_usage
returns-in_err-put_usage g c = rw (fault_at c.from_residual.result c.from_residual.ensures.1) c.in_err-put_usage.ensures
