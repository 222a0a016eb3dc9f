use Rattle.std.proofs.Common.{◌≡◌, map}
use Rattle.std.specs.List.{range_with_len}
use Rattle.other_measures.specs.Crossing.{no_preempt}
use Rattle.other_measures.proofs.carry.empty_preempts.Given as goal

abbrev pub invariant-loop-number : goal.invariant-loop-number
invariant-loop-number l = l.parts.items ≡ map (no_preempt l.preempts) (range_with_len 0 l.number)
