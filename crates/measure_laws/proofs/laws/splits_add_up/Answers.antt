use Rattle.measure_laws.proofs.Adding.{splits_add_up}
use Rattle.measure_laws.proofs.laws.splits_add_up.Goals as goal

pub returns : goal.returns
returns c = splits_add_up
