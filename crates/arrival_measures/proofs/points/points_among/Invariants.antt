use Rattle.std.proofs.Common.{◌≡◌, ◌<◌, take}
use Rattle.std.specs.Prelude.{All, flat_map}
use Rattle.arrival_measures.specs.Points.{points_at}
use Rattle.arrival_measures.proofs.points.points_among.Given as goal

abbrev pub invariant-loop-row : goal.invariant-loop-row
invariant-loop-row l = All (λ x. x.at < 26820000) l.rows → l.points ≡ flat_map (points_at l.phase 0 l.config.approaches) (take l.row-index l.rows)
