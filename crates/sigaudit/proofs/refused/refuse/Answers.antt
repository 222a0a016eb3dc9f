use Rattle.sigaudit.proofs.StopFacts.{fault_at}
use Rattle.sigaudit.proofs.refused.refuse.Goals as goal

pub returns-in_err-put_refusal : goal.returns-in_err-put_refusal
returns-in_err-put_refusal g c = λ s. rw (fault_at c.from_residual.result c.from_residual.ensures.1) (rw c.window.ensures at c.in_err-put_refusal.ensures)
