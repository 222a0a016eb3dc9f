use Rattle.stop_bar.proofs.Staying.{pending_are_one}
use Rattle.stop_bar.proofs.window_laws.pending_are_one.Goals as goal

pub returns : goal.returns
returns c = pending_are_one
