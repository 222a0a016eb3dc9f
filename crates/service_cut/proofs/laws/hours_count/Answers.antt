use Rattle.service_cut.proofs.HourLists.{services_count, cycles_count}
use Rattle.service_cut.proofs.laws.hours_count.Goals as goal

pub returns-clause-services : goal.returns-clause-services
returns-clause-services c = services_count

pub returns-clause-cycles : goal.returns-clause-cycles
returns-clause-cycles c = cycles_count
