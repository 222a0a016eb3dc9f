use Rattle.reach.proofs.Returning.{places_gaps}
use Rattle.reach.proofs.before_holes.places_are_gaps.Goals as goal

pub returns : goal.returns
returns c = places_gaps
