use Rattle.service_cut.proofs.WholeServices.{service_is_whole, whole_is_service}
use Rattle.service_cut.proofs.laws.services_are_whole.Goals as goal

pub returns : goal.returns
returns c known p before r later s k = (service_is_whole known p before r later s k, whole_is_service known p before r later s)
