use Rattle.reach.specs.Sets.{AreTakenBack}
use Rattle.reach.proofs.sets.take_back.Given as goal

abbrev pub invariant-loop-colour : goal.invariant-loop-colour
invariant-loop-colour l = AreTakenBack l.initial.sets l.firsts l.sets l.colour
