use Rattle.std.proofs.Common.{◌↔◌, ◌⊎◌, ℤ, ◌≤ℤ◌, take}
use Rattle.span_set.specs.Spans.{Member}
use Rattle.reach.proofs.run.fill_set.Given as goal

abbrev pub invariant-loop-i : goal.invariant-loop-i
invariant-loop-i l = (e : ℤ) → Member l.set e ↔ (Member l.fn.set e ⊎ ((l.start ≤ℤ e) × Member (take l.i l.holes) e))
