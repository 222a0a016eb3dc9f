use Rattle.filling_pair.specs.Asks.{ReplyUpTo}
use Rattle.sig_base.specs.Reads.{Grow}
use Rattle.filling_pair.proofs.asks.replies.Given as goal

abbrev pub invariant-loop-spec : goal.invariant-loop-spec
invariant-loop-spec g l = record {
  replies : ReplyUpTo l.specs l.store l.line l.asks l.spec l.strands;
  grow : Grow l.fn.reads l.reads;
}
