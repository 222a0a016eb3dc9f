use Rattle.hour_work.proofs.Totals.{log_total}
use Rattle.hour_work.proofs.laws.totals_are_of_the_log.Goals as goal

pub returns-clause-splits : goal.returns-clause-splits
returns-clause-splits f c s all store is = (log_total c s all store is).splits

pub returns-clause-others : goal.returns-clause-others
returns-clause-others f c s all store is = (log_total c s all store is).others

pub returns-clause-arrivals : goal.returns-clause-arrivals
returns-clause-arrivals f c s all store is = (log_total c s all store is).arrivals
