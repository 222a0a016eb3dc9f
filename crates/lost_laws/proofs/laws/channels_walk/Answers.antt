use Rattle.lost_laws.proofs.Moves.{ranges_join}
use Rattle.lost_laws.proofs.Parts.{completed_over, none_outside, reached_over}
use Rattle.lost_laws.proofs.Ranges.{range_walk}
use Rattle.lost_laws.proofs.laws.channels_walk.Goals as goal

pub returns : goal.returns
returns c = record { range = range_walk; join = ranges_join; reached = reached_over; completed = completed_over; outside = none_outside }
