use Rattle.std.proofs.Common.{arith}
use Rattle.split_measures.proofs.Opening.{opens_are}
use Rattle.split_measures.proofs.bars.opens.Goals as goal

pub returns : goal.returns
returns c = λ ss e. opens_are c.args.count ss (omega arith) e
