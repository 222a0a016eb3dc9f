use Rattle.std.proofs.Common.{◌≡◌, take}
use Rattle.hour_sweep.specs.Sums.{merged}
use Rattle.hour_work.specs.Numbers.{count_sum}
use Rattle.hour_work.proofs.numbers.add_counts.Given as goal

abbrev pub invariant-loop-i : goal.invariant-loop-i
invariant-loop-i l = l.total.items ≡ merged count_sum l.fn.total.items (take l.i l.more)
