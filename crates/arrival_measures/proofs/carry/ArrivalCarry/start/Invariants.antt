use Rattle.std.proofs.Common.{◌≡◌, take, map}
use Rattle.arrival_measures.proofs.Starts.{nothing_crosses}
use Rattle.arrival_measures.proofs.carry.ArrivalCarry.start.Given as goal

abbrev pub invariant-loop-place : goal.invariant-loop-place
invariant-loop-place l = l.crossings.items ≡ map nothing_crosses (take l._place l.config.approaches)
