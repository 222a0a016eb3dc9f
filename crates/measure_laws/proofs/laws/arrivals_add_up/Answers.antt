use Rattle.measure_laws.proofs.Adding.{arrivals_add_up}
use Rattle.measure_laws.proofs.laws.arrivals_add_up.Goals as goal

pub returns : goal.returns
returns c = arrivals_add_up
