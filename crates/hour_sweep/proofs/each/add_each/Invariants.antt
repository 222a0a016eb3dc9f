use Rattle.std.proofs.Common.{◌≡◌, take}
use Rattle.hour_sweep.specs.Sums.{merged}
use Rattle.hour_sweep.proofs.each.add_each.Given as goal

abbrev pub invariant-loop-i : goal.invariant-loop-i
invariant-loop-i g l = l.total.items ≡ merged g.T.Sum.both l.fn.total.items (take l.i l.more)
