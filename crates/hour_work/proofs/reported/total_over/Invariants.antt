use Rattle.std.proofs.Common.{◌*◌, ◌≤◌, List, length, take}
use Rattle.std.specs.List.{All}
use Rattle.hour_work.specs.Numbers.{AreBlocks, FitHours, IsTotal, Numbers, patched}
use Rattle.hour_work.proofs.reported.total_over.Given as goal

abbrev pub invariant-loop-place : goal.invariant-loop-place
invariant-loop-place l = (hours : List Numbers) → length hours ≤ 744 → All (FitHours 1) hours → AreBlocks hours (patched l.kept l.first l.fresh) → IsTotal (take (27 * l.place) hours) l.total
