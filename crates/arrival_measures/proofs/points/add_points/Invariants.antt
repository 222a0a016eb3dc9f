use Rattle.std.proofs.Common.{◌≡◌, ◌<◌, ◌++◌, drop}
use Rattle.arrival_measures.specs.Points.{points_at}
use Rattle.arrival_measures.proofs.points.add_points.Given as goal

abbrev pub invariant-loop-place : goal.invariant-loop-place
invariant-loop-place l = l.row.at < 26820000 → l.points ++ points_at l.phase l.place (drop l.place l.config.approaches) l.row ≡ l.initial.points ++ points_at l.phase 0 l.config.approaches l.row
