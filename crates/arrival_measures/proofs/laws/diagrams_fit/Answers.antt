use Rattle.arrival_measures.proofs.Fitting.{diagrams_fit}
use Rattle.arrival_measures.proofs.laws.diagrams_fit.Goals as goal

pub returns : goal.returns
returns c known s p a b rows h = diagrams_fit known s p a b rows h
