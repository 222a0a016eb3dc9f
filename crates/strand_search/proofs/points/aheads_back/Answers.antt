use Rattle.std.proofs.Common.{arith}
use Rattle.strand_search.proofs.Growing.{grow_on}
use Rattle.strand_search.proofs.Pointing.{ahead_here, aheads_more, ends_back}
use Rattle.strand_search.proofs.points.aheads_back.Goals as goal

pub previous_aheads-requires-clause-after : goal.previous_aheads-requires-clause-after
previous_aheads-requires-clause-after g c =
    let hours = c.hours-hours.ensures.value in
    let some = c.hours-hours.ensures.store.some in
    let few = c.requires.count in
    let lt = c.loop-done-test.true in
    ahead_here c.args.spec.now c.args.store.now c.loop-done.done c.loop-done.done _ c.loop-done.aheads.items c.index.result.now (omega arith) (omega arith) c.loop-done.invariant.aheads c.index.ensures

pub loop-done-preserved : goal.loop-done-preserved
loop-done-preserved g c =
    let hours = c.hours-hours.ensures.value in
    let some = c.hours-hours.ensures.store.some in
    let few = c.requires.count in
    let lt = c.loop-done-test.true in
    record {
      aheads = aheads_more c.args.spec.now c.args.store.now c.loop-done.done _ c.loop-done.aheads.items c.push-in-loop-done.new.self.items c.in_ok-next.next (omega arith) c.in_ok-push-2.ensures.items c.loop-done.invariant.aheads c.in_ok-next.ensures.aheads;
      grow = grow_on c.args.reads.now c.loop-done.reads c.previous_aheads.new.reads c.loop-done.invariant.grow c.previous_aheads.ensures.grow;
    }

pub returns-clause-aheads : goal.returns-clause-aheads
returns-clause-aheads g c =
    let end = c.loop-done.auto.done-end in
    let stop = c.loop-done-test.false in
    ends_back c.args.spec.now c.args.store.now c.loop-done.done c.args.count c.loop-done.aheads.items (omega arith) c.loop-done.invariant.aheads
