use Rattle.measure_laws.proofs.OnePart.{one_part}
use Rattle.measure_laws.proofs.laws.parts_are_one.Goals as goal

pub returns : goal.returns
returns c = one_part
