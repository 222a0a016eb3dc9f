use Rattle.std.proofs.Common.{◌≡◌, ◌++◌, map, take}
use Rattle.arrival_measures.specs.Steps.{moved, row_on}
use Rattle.arrival_measures.proofs.ahead.arriving.Given as goal

abbrev pub invariant-loop-at : goal.invariant-loop-at
invariant-loop-at l = l.all.items ≡ map (row_on l.detector) (take l.at-index l.pending)

abbrev pub invariant-loop-row : goal.invariant-loop-row
invariant-loop-row l = l.all.items ≡ map (row_on l.detector) l.pending ++ map (moved l.travel) (take l.row-index l.rows)
