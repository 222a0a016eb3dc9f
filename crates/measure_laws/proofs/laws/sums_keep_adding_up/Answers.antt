use Rattle.measure_laws.proofs.Adding.{sums_keep_adding_up}
use Rattle.measure_laws.proofs.laws.sums_keep_adding_up.Goals as goal

pub returns : goal.returns
returns c = sums_keep_adding_up
