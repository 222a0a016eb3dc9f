use Rattle.hour_work.proofs.Before.{fault_rows_are_sure}
use Rattle.hour_work.proofs.fault_laws.fault_rows_are_sure.Goals as goal

pub returns : goal.returns
returns c = fault_rows_are_sure
