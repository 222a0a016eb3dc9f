use Rattle.std.proofs.Common.{length}
use Rattle.rule_audit.specs.Index.{AreChannels}
use Rattle.rule_audit.proofs.next.channels_of.Given as goal

abbrev pub invariant-loop-index : goal.invariant-loop-index
invariant-loop-index l = AreChannels l.hour.own.now (length l.hour.specs.now) l.first l.index l.channels.items
