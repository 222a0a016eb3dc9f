use Rattle.edit_laws.proofs.Knowledge.{known_moves}
use Rattle.edit_laws.proofs.laws.knowledge_moves.Goals as goal

pub returns : goal.returns
returns f = record { known = known_moves }
