use Rattle.std.proofs.Common.{arith}
use Rattle.split_measures.proofs.Ones.{one_cycle}
use Rattle.split_measures.proofs.sums.of_cycle.Goals as goal

pub returns : goal.returns
returns c = one_cycle c.args.cycle.now _ (omega arith) (omega arith)
