use Rattle.stop_bar.proofs.Hours.{listed_once}
use Rattle.stop_bar.proofs.laws.windows_are_listed_once.Goals as goal

pub returns : goal.returns
returns c = listed_once
