use Rattle.std.proofs.Common.{arith}
use Rattle.arrival_measures.proofs.Counting.{kept_count}
use Rattle.arrival_measures.proofs.judged.more.Goals as goal

pub returns-else-one : goal.returns-else-one
returns-else-one c = rw c.if-one.false (kept_count c.args.count (omega arith))
