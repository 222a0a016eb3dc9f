use Rattle.sigaudit.proofs.StopFacts.{fault_at}
use Rattle.sigaudit.proofs.file.show_packed.Goals as goal

pub returns-in_err-put : goal.returns-in_err-put
returns-in_err-put g c = rw (fault_at c.from_residual.result c.from_residual.ensures.1) c.in_err-put.ensures
