use Rattle.lost_laws.proofs.Agreeing.{none_lost_agrees}
use Rattle.lost_laws.proofs.laws.none_lost_is_agreement.Goals as goal

pub returns : goal.returns
returns c = none_lost_agrees
