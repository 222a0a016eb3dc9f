use Rattle.strand_search.specs.Points.{ArePastsUpTo}
use Rattle.sig_base.specs.Reads.{Grow}
use Rattle.strand_search.proofs.points.pasts_up_to.Given as goal

abbrev pub invariant-loop-past : goal.invariant-loop-past
invariant-loop-past g l = record {
  pasts : ArePastsUpTo l.spec l.store l.past l.pasts.items;
  grow : Grow l.fn.reads l.reads;
}
