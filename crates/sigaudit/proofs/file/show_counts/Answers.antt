use Rattle.sigaudit.proofs.StopFacts.{fault_at}
use Rattle.sigaudit.proofs.file.show_counts.Goals as goal

pub returns-in_err-put_counts-clause-put : goal.returns-in_err-put_counts-clause-put
returns-in_err-put_counts-clause-put g c = rw (fault_at c.from_residual.result c.from_residual.ensures.1) (rw (c.show.ensures.rows, c.repeats.ensures) at c.in_err-put_counts.ensures)
