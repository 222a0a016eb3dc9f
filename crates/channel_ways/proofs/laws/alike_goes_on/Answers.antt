use Rattle.channel_ways.proofs.Carrying.{goes_on}
use Rattle.channel_ways.proofs.laws.alike_goes_on.Goals as goal

pub returns : goal.returns
returns c = goes_on
