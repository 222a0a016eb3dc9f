use Rattle.other_measures.proofs.Ones.{no_delay}
use Rattle.other_measures.proofs.ped_sums.nothing.Goals as goal

pub returns-clause-none : goal.returns-clause-none
returns-clause-none c = no_delay
