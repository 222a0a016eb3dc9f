use Rattle.std.proofs.Common.{◌≡◌, drop}
use Rattle.hour_sweep.specs.Passes.{swept_rows}
use Rattle.arrival_measures.specs.InTenths.{tenth_after}
use Rattle.arrival_measures.proofs.open.Open.over.Given as goal

abbrev pub invariant-loop-row : goal.invariant-loop-row
invariant-loop-row l = swept_rows (tenth_after l.phase l.detector) (drop l.row-index l.rows) l.now ≡ swept_rows (tenth_after l.phase l.detector) l.rows l.initial.now
