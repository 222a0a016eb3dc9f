use Rattle.other_measures.proofs.Numbers.{ped_numbers_add, preempt_numbers_add}
use Rattle.other_measures.proofs.laws.numbers_add_up.Goals as goal

pub returns-clause-delays : goal.returns-clause-delays
returns-clause-delays c = ped_numbers_add

pub returns-clause-events : goal.returns-clause-events
returns-clause-events c = preempt_numbers_add
