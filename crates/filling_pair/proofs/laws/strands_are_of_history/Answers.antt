use Rattle.filling_pair.proofs.Histories.{strands_are_of_history}
use Rattle.filling_pair.proofs.laws.strands_are_of_history.Goals as goal

pub returns : goal.returns
returns c = strands_are_of_history
