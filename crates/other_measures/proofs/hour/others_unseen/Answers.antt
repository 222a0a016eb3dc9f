use Rattle.std.proofs.Common.{None}
use Rattle.std.proofs.lemmas.Result.{IfOk-weaker}
use Rattle.other_measures.proofs.hour.others_unseen.Goals as goal

pub returns-clause-states : goal.returns-clause-states
returns-clause-states c = IfOk-weaker c.over_hour.result _ _ (λ sums at from. at None from tt) c.over_hour.ensures.states
