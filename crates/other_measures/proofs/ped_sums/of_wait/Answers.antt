use Rattle.other_measures.proofs.Ones.{wait_sum}
use Rattle.other_measures.proofs.ped_sums.of_wait.Goals as goal

pub returns : goal.returns
returns c = wait_sum c.nothing.result c.args.wait c.from.result c.nothing.ensures.zero c.from.ensures c.from.type_inv
