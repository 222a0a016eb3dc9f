use Rattle.std.proofs.Common.{◌≡◌, map}
use Rattle.std.specs.List.{range_with_len}
use Rattle.service_cut.specs.Steps.{no_part}
use Rattle.service_cut.proofs.carry.CutCarry.start.Given as goal

abbrev pub invariant-loop-number : goal.invariant-loop-number
invariant-loop-number l = l.parts.items ≡ map (no_part l.phases) (range_with_len 0 l.number)
