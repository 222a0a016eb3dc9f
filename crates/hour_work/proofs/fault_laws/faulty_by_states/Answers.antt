use Rattle.hour_work.proofs.Before.{faulty_by_states}
use Rattle.hour_work.proofs.fault_laws.faulty_by_states.Goals as goal

pub returns : goal.returns
returns c = faulty_by_states
