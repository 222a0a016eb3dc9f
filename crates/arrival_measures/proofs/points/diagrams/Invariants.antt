use Rattle.std.proofs.Common.{◌≡◌, map, take}
use Rattle.arrival_measures.specs.Points.{diagram_of}
use Rattle.arrival_measures.proofs.points.diagrams.Given as goal

abbrev pub invariant-loop-cycle : goal.invariant-loop-cycle
invariant-loop-cycle l = l.all.items ≡ map (diagram_of l.points) (take l.cycle-index l.cycles)
