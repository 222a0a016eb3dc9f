use Rattle.std.proofs.Common.{ℕ, ◌≤◌, ◌<◌}
use Rattle.rule_audit.specs.Pass.{AreUnruled, row_at}
use Rattle.rule_audit.proofs.walk.next_ruled.Given as goal

abbrev pub invariant-loop-index : goal.invariant-loop-index
invariant-loop-index l = AreUnruled l.hour l.first l.index × ((k : ℕ) → l.first ≤ k → k < l.index → (row_at l.hour k).at < l.to)
