use Rattle.split_measures.proofs.Adding.{numbers_add}
use Rattle.split_measures.proofs.laws.numbers_add_up.Goals as goal

pub returns : goal.returns
returns c = numbers_add
