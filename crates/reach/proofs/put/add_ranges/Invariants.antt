use Rattle.std.proofs.Common.{◌↔◌, ◌⊎◌, ℤ, take}
use Rattle.span_set.specs.Spans.{Member}
use Rattle.reach.proofs.put.add_ranges.Given as goal

abbrev pub invariant-loop-i : goal.invariant-loop-i
invariant-loop-i l = (e : ℤ) → Member l.set e ↔ (Member l.fn.set e ⊎ Member (take l.i l.ranges) e)
