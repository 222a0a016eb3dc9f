use Rattle.reach.proofs.Crossing.{holes_gaps}
use Rattle.reach.proofs.holes.holes_are_gaps.Goals as goal

pub returns : goal.returns
returns c = holes_gaps
