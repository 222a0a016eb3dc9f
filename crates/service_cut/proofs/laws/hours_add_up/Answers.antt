use Rattle.service_cut.proofs.HourLists.{services_add, served_add, cycles_add}
use Rattle.service_cut.proofs.laws.hours_add_up.Goals as goal

pub returns-clause-services : goal.returns-clause-services
returns-clause-services c = services_add

pub returns-clause-served : goal.returns-clause-served
returns-clause-served c = served_add

pub returns-clause-cycles : goal.returns-clause-cycles
returns-clause-cycles c = cycles_add
