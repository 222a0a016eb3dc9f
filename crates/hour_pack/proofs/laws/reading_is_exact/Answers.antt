use Rattle.hour_pack.proofs.ReadingFacts.{reading-exact}
use Rattle.hour_pack.proofs.laws.reading_is_exact.Goals as goal

pub returns : goal.returns
returns c = reading-exact
