use Rattle.stamp_laws.proofs.Stamps.{hours_read}
use Rattle.stamp_laws.proofs.laws.hours_are_read.Goals as goal

pub returns : goal.returns
returns f = record { hours = hours_read }
