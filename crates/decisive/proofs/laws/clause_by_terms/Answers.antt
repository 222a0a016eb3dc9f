use Rattle.decisive.proofs.Clauses.{by_terms}
use Rattle.decisive.proofs.laws.clause_by_terms.Goals as goal

pub returns : goal.returns
returns c = by_terms
