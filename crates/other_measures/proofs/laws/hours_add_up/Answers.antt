use Rattle.other_measures.proofs.Hours.{delays_add, events_add}
use Rattle.other_measures.proofs.laws.hours_add_up.Goals as goal

pub returns-clause-delays : goal.returns-clause-delays
returns-clause-delays c = delays_add

pub returns-clause-events : goal.returns-clause-events
returns-clause-events c = events_add
