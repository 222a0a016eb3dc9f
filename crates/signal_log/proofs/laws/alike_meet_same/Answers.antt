use Rattle.signal_log.proofs.Lawful.{meet_same}
use Rattle.signal_log.proofs.laws.alike_meet_same.Goals as goal

pub returns : goal.returns
returns c = meet_same
