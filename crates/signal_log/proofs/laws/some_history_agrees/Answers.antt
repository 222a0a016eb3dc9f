use Rattle.signal_log.proofs.Lawful.{some_history, no_history, one_row}
use Rattle.signal_log.proofs.laws.some_history_agrees.Goals as goal

pub returns-clause-history : goal.returns-clause-history
returns-clause-history c = some_history

pub returns-clause-none : goal.returns-clause-none
returns-clause-none c = no_history

pub returns-clause-one : goal.returns-clause-one
returns-clause-one c = one_row
