use Rattle.stop_bar.proofs.Fitting.{services_fit}
use Rattle.stop_bar.proofs.window_laws.services_fit.Goals as goal

pub returns : goal.returns
returns c = services_fit
