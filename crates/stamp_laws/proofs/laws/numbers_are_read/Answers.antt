use Rattle.stamp_laws.proofs.Numbers.{numbers_read}
use Rattle.stamp_laws.proofs.laws.numbers_are_read.Goals as goal

pub returns : goal.returns
returns f = record { numbers = numbers_read }
