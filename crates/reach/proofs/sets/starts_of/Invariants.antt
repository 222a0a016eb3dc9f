use Rattle.reach.specs.Sets.{AreStarts}
use Rattle.reach.proofs.sets.starts_of.Given as goal

abbrev pub invariant-loop-colour : goal.invariant-loop-colour
invariant-loop-colour l = AreStarts l.enter l.tenth l.starts l.colour
