use Rattle.stamp_laws.proofs.Halves.{times_read}
use Rattle.stamp_laws.proofs.laws.times_are_read.Goals as goal

pub returns : goal.returns
returns f = record { times = times_read }
