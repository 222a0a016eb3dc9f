use Rattle.measure_laws.proofs.Splits.{split_totals}
use Rattle.measure_laws.proofs.laws.split_totals_are_of_the_log.Goals as goal

pub returns : goal.returns
returns c = split_totals
