use Rattle.service_cut.proofs.WholeCycles.{cycle_is_whole, whole_is_cycle}
use Rattle.service_cut.proofs.laws.cycles_are_whole.Goals as goal

pub returns : goal.returns
returns c known p a b before r s or all k = (cycle_is_whole known p a b before r s or all k, whole_is_cycle known p a b before r s or all)
