use Rattle.std.proofs.Common.{length}
use Rattle.rule_audit.proofs.Indexing.{is_of_channel, IsNextOver}
use Rattle.rule_audit.proofs.next.next_due.Given as goal

abbrev pub invariant-loop-index : goal.invariant-loop-index
invariant-loop-index l = IsNextOver (is_of_channel l.hour.specs.now l.hour.rules.now) (length l.hour.rules.now) l.channels l.index l.from l.least
