use Rattle.std.proofs.Common.{arith}
use Rattle.hour_sweep.specs.Sums.{capped}
use Rattle.arrival_measures.proofs.hour.count.Goals as goal

pub returns : goal.returns
unfolding capped
returns c = omega arith
