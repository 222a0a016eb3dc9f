use Rattle.signal_log.proofs.Lawful.{fewer}
use Rattle.signal_log.proofs.laws.less_is_known.Goals as goal

pub returns : goal.returns
returns c = fewer
