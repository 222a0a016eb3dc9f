use Rattle.lost_laws.proofs.Sturdy.{is_broken, row_stands}
use Rattle.lost_laws.proofs.laws.sturdy_intervals_are_broken.Goals as goal

pub returns : goal.returns
returns c = record { broken = is_broken; row = row_stands }
