use Rattle.sigaudit.proofs.StopFacts.{fault_at}
use Rattle.sigaudit.proofs.one_run.show_config_error.Goals as goal

pub returns-in_err-put_config_error : goal.returns-in_err-put_config_error
returns-in_err-put_config_error g c = rw (fault_at c.from_residual.result c.from_residual.ensures.1) c.in_err-put_config_error.ensures
