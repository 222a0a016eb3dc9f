use Rattle.decisive.proofs.Alone.{alone}
use Rattle.decisive.proofs.laws.channel_alone.Goals as goal

pub returns : goal.returns
returns c = alone
