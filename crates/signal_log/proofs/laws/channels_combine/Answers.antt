use Rattle.signal_log.proofs.Lawful.{combine}
use Rattle.signal_log.proofs.laws.channels_combine.Goals as goal

pub returns : goal.returns
returns c = combine
