use Rattle.std.proofs.Common.{refl}
use Rattle.sigaudit.proofs.StopFacts.{memory_at}
use Rattle.sigaudit.proofs.file.pack_rows.Goals as goal

pub returns-in_err-bytes-clause-put : goal.returns-in_err-bytes-clause-put
returns-in_err-bytes-clause-put g c = rw (memory_at c.from_residual.result c.from_residual.ensures.1) refl
