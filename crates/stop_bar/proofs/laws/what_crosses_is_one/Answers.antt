use Rattle.stop_bar.proofs.Hours.{crosses_once}
use Rattle.stop_bar.proofs.laws.what_crosses_is_one.Goals as goal

pub returns : goal.returns
returns c = crosses_once
