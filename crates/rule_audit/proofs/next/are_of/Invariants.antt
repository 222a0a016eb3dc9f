use Rattle.std.proofs.Common.{ℕ, ◌≡◌, ◌<◌, ◌≤◌, length, get_or}
use Rattle.rule_audit.proofs.next.are_of.Given as goal

abbrev pub invariant-loop-index : goal.invariant-loop-index
invariant-loop-index l = (j : ℕ) → l.row ≤ j → j < l.index → get_or l.hour.own.now j 0 < length l.hour.specs.now → get_or l.hour.own.now j 0 ≡ l.channel
