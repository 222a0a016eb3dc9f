use Rattle.std.proofs.Common.{arith}
use Rattle.split_measures.proofs.Ones.{one_service}
use Rattle.split_measures.proofs.sums.of_service.Goals as goal

pub returns : goal.returns
returns c = one_service c.args.service.now c.saturating_sub-split.result c.from.result c.is_end.result c.is_end-2.result c.is_end-3.result c.is_end-4.result (omega arith) (omega arith) (omega arith) c.is_end.ensures c.is_end-2.ensures c.is_end-3.ensures c.is_end-4.ensures
