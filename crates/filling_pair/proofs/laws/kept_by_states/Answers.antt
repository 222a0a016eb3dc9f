use Rattle.filling_pair.proofs.Clauses.{kept_by_states}
use Rattle.filling_pair.proofs.laws.kept_by_states.Goals as goal

pub returns : goal.returns
returns c = kept_by_states
