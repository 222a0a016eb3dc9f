use Rattle.stop_bar.proofs.Staying.{tenths_stay}
use Rattle.stop_bar.proofs.window_laws.tenths_stay.Goals as goal

pub returns : goal.returns
returns c = tenths_stay
