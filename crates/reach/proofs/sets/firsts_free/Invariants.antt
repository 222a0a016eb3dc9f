use Rattle.reach.specs.Sets.{AreFree}
use Rattle.reach.proofs.sets.firsts_free.Given as goal

abbrev pub invariant-loop-colour : goal.invariant-loop-colour
invariant-loop-colour l = AreFree l.sets l.starts l.firsts l.colour
