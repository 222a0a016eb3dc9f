use Rattle.std.proofs.Common.{◌≡◌, drop}
use Rattle.hour_sweep.specs.Passes.{swept}
use Rattle.hour_sweep.proofs.watch.sweep.Given as goal

abbrev pub invariant-loop-stretch : goal.invariant-loop-stretch
invariant-loop-stretch g l = swept g.W.Watch.after g.W.Watch.cleared (drop l.stretch-index l.stretches) l.left l.watch ≡ swept g.W.Watch.after g.W.Watch.cleared l.stretches l.rows l.initial.watch
