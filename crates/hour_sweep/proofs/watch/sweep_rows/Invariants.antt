use Rattle.std.proofs.Common.{◌≡◌, drop}
use Rattle.hour_sweep.specs.Passes.{swept_rows}
use Rattle.hour_sweep.proofs.watch.sweep_rows.Given as goal

abbrev pub invariant-loop-row : goal.invariant-loop-row
invariant-loop-row g l = swept_rows g.W.Watch.after (drop l.row-index l.rows) l.watch ≡ swept_rows g.W.Watch.after l.rows l.initial.watch
