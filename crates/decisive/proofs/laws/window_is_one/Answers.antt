use Rattle.decisive.proofs.Lawful.{window_one}
use Rattle.decisive.proofs.laws.window_is_one.Goals as goal

pub returns : goal.returns
returns c = window_one
