use Rattle.std.proofs.Common.{arith}
use Rattle.strand_search.proofs.Growing.{grow_on, grow_same}
use Rattle.strand_search.proofs.Pointing.{past_here, pasts_first, pasts_more}
use Rattle.strand_search.proofs.points.pasts_up_to.Goals as goal

pub loop-past-init : goal.loop-past-init
loop-past-init g c =
    let items = rw c.new-pasts.ensures.items at c.in_ok-push.ensures.items in
    record {
      pasts = pasts_first c.args.spec.now c.args.store.now c.push.new.self.items c.in_ok-first.first items c.in_ok-first.ensures;
      grow = grow_same c.args.reads.now;
    }

pub next_pasts-requires-clause-before : goal.next_pasts-requires-clause-before
next_pasts-requires-clause-before g c = past_here c.args.spec.now c.args.store.now c.loop-past.past c.loop-past.past c.loop-past.pasts.items c.index.result.now (omega arith) c.loop-past.invariant.pasts c.index.ensures

pub loop-past-preserved : goal.loop-past-preserved
loop-past-preserved g c = record {
  pasts = pasts_more c.args.spec.now c.args.store.now c.loop-past.past c.loop-past.pasts.items c.push-in-Some.new.self.items c.in-Some.next c.in_ok-push-in-Some.ensures.items c.loop-past.invariant.pasts (rw c.in-Some.is at c.in_ok-next.ensures.pasts);
  grow = grow_on c.args.reads.now c.loop-past.reads c.next_pasts.new.reads c.loop-past.invariant.grow c.next_pasts.ensures.grow;
}
