use Rattle.signal_log.proofs.Lawful.{nothing}
use Rattle.signal_log.proofs.laws.nothing_contradicts.Goals as goal

pub returns : goal.returns
returns c = nothing
