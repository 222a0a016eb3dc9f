use Rattle.hour_work.proofs.Before.{faulty_is_sure}
use Rattle.hour_work.proofs.fault_laws.faulty_is_sure.Goals as goal

pub returns : goal.returns
returns c = faulty_is_sure
