use Rattle.std.proofs.Common.{take}
use Rattle.offset_search.specs.Shifted.{count_after}
use Rattle.offset_search.specs.Steps.{AreSteps}
use Rattle.offset_search.proofs.steps.add_all.Given as goal

abbrev pub invariant-loop-arrival : goal.invariant-loop-arrival
invariant-loop-arrival l = AreSteps (count_after (take l.arrival-index l.arrivals)) l.steps
