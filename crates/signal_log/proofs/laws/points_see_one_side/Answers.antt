use Rattle.signal_log.proofs.Lawful.{pasts_stay, aheads_stay}
use Rattle.signal_log.proofs.Earlier.{contradiction_stays}
use Rattle.signal_log.proofs.laws.points_see_one_side.Goals as goal

pub returns-clause-before : goal.returns-clause-before
returns-clause-before c = pasts_stay

pub returns-clause-after : goal.returns-clause-after
returns-clause-after c = aheads_stay

pub returns-clause-row : goal.returns-clause-row
returns-clause-row c = contradiction_stays
