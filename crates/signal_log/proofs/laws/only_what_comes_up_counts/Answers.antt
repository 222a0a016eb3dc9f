use Rattle.signal_log.proofs.Suiting.{all_count, same_count}
use Rattle.signal_log.proofs.laws.only_what_comes_up_counts.Goals as goal

pub returns-clause-all : goal.returns-clause-all
returns-clause-all c = all_count

pub returns-clause-same : goal.returns-clause-same
returns-clause-same c = same_count
