use Rattle.measure_laws.proofs.States.{state_totals}
use Rattle.measure_laws.proofs.laws.state_totals_are_of_the_log.Goals as goal

pub returns : goal.returns
returns c = state_totals
