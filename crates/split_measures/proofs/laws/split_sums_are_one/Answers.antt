use Rattle.split_measures.proofs.Single.{sums_are_one}
use Rattle.split_measures.proofs.laws.split_sums_are_one.Goals as goal

pub returns : goal.returns
returns c = sums_are_one
