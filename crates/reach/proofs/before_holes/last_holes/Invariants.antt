use Rattle.reach.specs.Last.{AreLasts}
use Rattle.reach.proofs.Entering.{ranks}
use Rattle.reach.proofs.before_holes.last_holes.Given as goal

abbrev pub invariant-rounds : goal.invariant-rounds
invariant-rounds g l = AreLasts (g.M.Machine.rules l.machine) l.latest l.holes l.to l.last

abbrev pub decreases-rounds : goal.decreases-rounds
decreases-rounds g l = ranks l.from l.to l.last
