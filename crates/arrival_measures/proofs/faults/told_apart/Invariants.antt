use Rattle.std.proofs.Common.{◌≡◌, take}
use Rattle.std.specs.List.{filter_map}
use Rattle.arrival_measures.specs.Steps.{arrival_in, fault_in}
use Rattle.arrival_measures.proofs.faults.told_apart.Given as goal

abbrev pub invariant-loop-one : goal.invariant-loop-one
invariant-loop-one l = record {
  arrivals : l.arrivals.items ≡ filter_map arrival_in (take l.one-index l.found);
  faults : l.faults.items ≡ filter_map fault_in (take l.one-index l.found);
}
