use Rattle.sigaudit.proofs.StopFacts.{fault_at}
use Rattle.sigaudit.proofs.refused.refuse_packed.Goals as goal

pub returns-in_err-put_packed_refusal : goal.returns-in_err-put_packed_refusal
returns-in_err-put_packed_refusal g c = λ s. rw (fault_at c.from_residual.result c.from_residual.ensures.1) c.in_err-put_packed_refusal.ensures
