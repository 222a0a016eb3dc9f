use Rattle.std.proofs.Common.{◌≡◌, take}
use Rattle.arrival_measures.proofs.carry.ArrivalCarry.copy.Given as goal

abbrev pub invariant-loop-crossing : goal.invariant-loop-crossing
invariant-loop-crossing l = l.crossings.items ≡ take l.crossing-index l.crossing-items
