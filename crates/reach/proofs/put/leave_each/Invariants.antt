use Rattle.std.proofs.Common.{◌↔◌, ◌⊎◌, ℤ, take}
use Rattle.span_set.specs.Spans.{Member}
use Rattle.reach.specs.Put.{LeftFrom}
use Rattle.reach.proofs.put.leave_each.Given as goal

abbrev pub invariant-loop-i : goal.invariant-loop-i
invariant-loop-i l = (t : ℤ) → Member l.into t ↔ (Member l.fn.into t ⊎ LeftFrom (take l.i l.ranges) l.times t)
