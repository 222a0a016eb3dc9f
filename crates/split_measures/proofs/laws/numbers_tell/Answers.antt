use Rattle.split_measures.proofs.Numbers.{numbers_tell}
use Rattle.split_measures.proofs.laws.numbers_tell.Goals as goal

pub returns : goal.returns
returns c = numbers_tell
