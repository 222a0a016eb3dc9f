use Rattle.hour_pack.proofs.ApartFacts.{none-cut}
use Rattle.hour_pack.proofs.laws.none_begins_another.Goals as goal

pub returns : goal.returns
returns c = none-cut
