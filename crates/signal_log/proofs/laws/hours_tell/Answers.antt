use Rattle.signal_log.proofs.Viewed.{hours_tell}
use Rattle.signal_log.proofs.laws.hours_tell.Goals as goal

pub returns : goal.returns
returns c = hours_tell
