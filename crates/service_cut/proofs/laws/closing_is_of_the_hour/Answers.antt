use Rattle.service_cut.proofs.Closings.{closing_later}
use Rattle.service_cut.proofs.laws.closing_is_of_the_hour.Goals as goal

pub returns : goal.returns
returns c = closing_later
