use Rattle.stop_bar.proofs.Staying.{tenths_are_one}
use Rattle.stop_bar.proofs.window_laws.tenths_are_one.Goals as goal

pub returns : goal.returns
returns c = tenths_are_one
