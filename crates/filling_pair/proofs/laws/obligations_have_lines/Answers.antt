use Rattle.filling_pair.proofs.Obliged.{obligations_have_lines}
use Rattle.filling_pair.proofs.laws.obligations_have_lines.Goals as goal

pub returns : goal.returns
returns c = obligations_have_lines
