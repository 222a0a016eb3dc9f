use Rattle.strand_search.specs.Points.{AreAheadsBack}
use Rattle.sig_base.specs.Reads.{Grow}
use Rattle.strand_search.proofs.points.aheads_back.Given as goal

abbrev pub invariant-loop-done : goal.invariant-loop-done
invariant-loop-done g l = record {
  aheads : AreAheadsBack l.spec l.store l.done l.aheads.items;
  grow : Grow l.fn.reads l.reads;
}
