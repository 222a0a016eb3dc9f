use Rattle.measure_laws.proofs.Arrivals.{arrival_totals}
use Rattle.measure_laws.proofs.laws.arrival_totals_are_of_the_log.Goals as goal

pub returns : goal.returns
returns c = arrival_totals
