use Rattle.measure_laws.proofs.Plain.{sums_plain}
use Rattle.measure_laws.proofs.laws.sums_are_plain.Goals as goal

pub returns : goal.returns
returns c = sums_plain
