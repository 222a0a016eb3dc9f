use Rattle.service_cut.proofs.HourLists.{served_same}
use Rattle.service_cut.proofs.laws.served_are_services.Goals as goal

pub returns : goal.returns
returns c = served_same
