use Rattle.stamp_laws.proofs.Stamps.{stamps_read, tenths_read}
use Rattle.stamp_laws.proofs.laws.stamps_are_read.Goals as goal

pub returns : goal.returns
returns f = record { stamps = stamps_read; windows = tenths_read }
