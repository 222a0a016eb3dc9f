use Rattle.reach.specs.Holes.{AreEntered}
use Rattle.reach.proofs.Arriving.{total}
use Rattle.reach.proofs.holes.arrivals.Given as goal

abbrev pub invariant-rounds : goal.invariant-rounds
invariant-rounds g l = AreEntered (g.M.Machine.rules l.machine) l.past l.holes l.from l.to l.arrival

abbrev pub decreases-rounds : goal.decreases-rounds
decreases-rounds g l = total l.from l.arrival
