use Rattle.signal_log.proofs.Lawful.{starts, ends}
use Rattle.signal_log.proofs.laws.points_at_both_ends.Goals as goal

pub returns-clause-first : goal.returns-clause-first
returns-clause-first c = starts

pub returns-clause-last : goal.returns-clause-last
returns-clause-last c = ends
