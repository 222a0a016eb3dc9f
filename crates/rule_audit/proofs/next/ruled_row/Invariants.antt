use Rattle.std.proofs.Common.{ℕ, ◌<◌, ◌≤◌, length, get_or}
use Rattle.rule_audit.proofs.next.ruled_row.Given as goal

abbrev pub invariant-loop-index : goal.invariant-loop-index
invariant-loop-index l = (j : ℕ) → l.first ≤ j → j < l.index → length l.hour.specs.now ≤ get_or l.hour.own.now j 0
