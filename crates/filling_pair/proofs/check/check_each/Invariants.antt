use Rattle.std.proofs.Common.{◌↔◌, ◌⊎◌, IsTrue, drop}
use Rattle.signal_log.specs.Log.{log_of}
use Rattle.filling_pair.specs.Strands.{AreAllStrands}
use Rattle.filling_pair.specs.Kept.{AreKept}
use Rattle.sig_base.specs.Reads.{Grow}
use Rattle.filling_pair.proofs.check.check_each.Given as goal

abbrev pub invariant-loop-strand : goal.invariant-loop-strand
invariant-loop-strand g l = record {
  grow : Grow l.fn.reads l.reads;
  strands : AreAllStrands (log_of l.specs l.store) l.strands ↔ AreAllStrands (log_of l.specs l.store) (drop l.strand-index l.strands);
  kept : AreKept (log_of l.specs l.store) l.rows l.line.at l.line.place l.rule l.strands ↔ (IsTrue l.is_kept ⊎ AreKept (log_of l.specs l.store) l.rows l.line.at l.line.place l.rule (drop l.strand-index l.strands));
}
