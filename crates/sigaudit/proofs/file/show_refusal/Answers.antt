use Rattle.sigaudit.proofs.StopFacts.{fault_at}
use Rattle.sigaudit.proofs.file.show_refusal.Goals as goal

pub returns-in_err-put_refusal : goal.returns-in_err-put_refusal
returns-in_err-put_refusal g c = rw (fault_at c.from_residual.result c.from_residual.ensures.1) c.in_err-put_refusal.ensures
