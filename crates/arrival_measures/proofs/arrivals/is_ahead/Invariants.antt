use Rattle.std.proofs.Common.{◌≡◌, drop}
use Rattle.arrival_measures.specs.Points.{is_ahead}
use Rattle.arrival_measures.proofs.arrivals.is_ahead.Given as goal

abbrev pub invariant-loop-place : goal.invariant-loop-place
invariant-loop-place l = is_ahead l.phase l.config.approaches l.row ≡ is_ahead l.phase (drop l.place l.config.approaches) l.row
