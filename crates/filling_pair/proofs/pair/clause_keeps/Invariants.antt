use Rattle.std.proofs.Common.{ℕ, ◌<◌, get_or}
use Rattle.board.specs.declared.clause.Term.{Term}
use Rattle.filling_pair.specs.Asks.{NoneHolds}
use Rattle.sig_base.specs.Reads.{Grow}
use Rattle.filling_pair.proofs.pair.clause_keeps.Given as goal

abbrev pub invariant-loop-i : goal.invariant-loop-i
invariant-loop-i g l = record {
  none : (k : ℕ) (d : Term) → k < l.i → NoneHolds l.specs l.store l.line (get_or l.terms k d);
  grow : Grow l.fn.reads l.reads;
}
