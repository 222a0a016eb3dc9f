use Rattle.stop_bar.proofs.Fitting.{opens_fit}
use Rattle.stop_bar.proofs.window_laws.opens_fit.Goals as goal

pub returns : goal.returns
returns c = opens_fit
