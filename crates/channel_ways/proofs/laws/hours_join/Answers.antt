use Rattle.channel_ways.proofs.Carrying.{join_hours}
use Rattle.channel_ways.proofs.laws.hours_join.Goals as goal

pub returns : goal.returns
returns c = join_hours
