use Rattle.channel_ways.proofs.Carrying.{are_walks}
use Rattle.channel_ways.proofs.laws.fillings_are_walks.Goals as goal

pub returns : goal.returns
returns c = are_walks
