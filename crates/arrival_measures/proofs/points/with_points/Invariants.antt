use Rattle.std.proofs.Common.{◌≡◌, map, take}
use Rattle.arrival_measures.specs.Points.{since_begin}
use Rattle.arrival_measures.proofs.points.with_points.Given as goal

abbrev pub invariant-loop-point : goal.invariant-loop-point
invariant-loop-point l = l.own ≡ map (since_begin l.cycle) (take l.point-index l.within)
