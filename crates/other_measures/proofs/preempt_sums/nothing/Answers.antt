use Rattle.other_measures.proofs.Ones.{no_event}
use Rattle.other_measures.proofs.preempt_sums.nothing.Goals as goal

pub returns-clause-none : goal.returns-clause-none
returns-clause-none c = no_event
