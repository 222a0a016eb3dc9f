use Rattle.measure_laws.proofs.GreenNumbers.{green_numbers}
use Rattle.measure_laws.proofs.GreenSums.{hour_green, total_green}
use Rattle.measure_laws.proofs.laws.green_is_of_all_histories.Goals as goal

pub returns-clause-cycles : goal.returns-clause-cycles
returns-clause-cycles f = green_numbers

pub returns-clause-hours : goal.returns-clause-hours
returns-clause-hours f = hour_green

pub returns-clause-totals : goal.returns-clause-totals
returns-clause-totals f = total_green
