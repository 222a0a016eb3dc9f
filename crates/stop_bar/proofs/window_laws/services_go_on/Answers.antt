use Rattle.stop_bar.proofs.Going.{services_go_on}
use Rattle.stop_bar.proofs.window_laws.services_go_on.Goals as goal

pub returns : goal.returns
returns c = services_go_on
