use Rattle.hour_pack.proofs.CauseFacts.{cuts-short, faults-stay}
use Rattle.hour_pack.proofs.laws.cuts_are_short.Goals as goal

pub returns-clause-cuts : goal.returns-clause-cuts
returns-clause-cuts c = cuts-short

pub returns-clause-others : goal.returns-clause-others
returns-clause-others c = faults-stay
