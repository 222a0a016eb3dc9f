use Rattle.stamp_laws.proofs.Halves.{dates_read}
use Rattle.stamp_laws.proofs.laws.dates_are_read.Goals as goal

pub returns : goal.returns
returns f = record { dates = dates_read }
