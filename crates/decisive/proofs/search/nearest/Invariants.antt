use Rattle.decisive.specs.Tries.{IsTrail}
use Rattle.decisive.proofs.search.nearest.Given as goal

abbrev pub invariant-loop-i : goal.invariant-loop-i
invariant-loop-i l = IsTrail l.aim l.question l.told l.trail l.i
