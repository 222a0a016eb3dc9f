use Rattle.std.proofs.Common.{◌≡◌, ◌++◌, take}
use Rattle.std.specs.Prelude.{flat_map}
use Rattle.sigaudit.specs.Offsets.{arrivals_at}
use Rattle.sigaudit.proofs.offsets.add_arrivals.Given as goal

abbrev pub invariant-loop-point : goal.invariant-loop-point
invariant-loop-point l = l.arrivals.items ≡ l.initial.arrivals.items ++ flat_map (arrivals_at l.place l.diagram.cycle) (take l.point-index l.point-items)
