use Rattle.std.proofs.Common.{◌≡◌, map}
use Rattle.std.specs.List.{range_with_len}
use Rattle.other_measures.specs.Crossing.{no_ped}
use Rattle.other_measures.proofs.carry.empty_peds.Given as goal

abbrev pub invariant-loop-number : goal.invariant-loop-number
invariant-loop-number l = l.parts.items ≡ map (no_ped l.peds) (range_with_len 0 l.number)
