use Rattle.std.proofs.Common.{◌+◌, arith}
use Rattle.gap_ways.specs.Ways.{state_of}
use Rattle.strand_search.proofs.Growing.{grow_on, grow_same}
use Rattle.strand_search.proofs.Pointing.{ahead_here}
use Rattle.strand_search.proofs.Stepping.{hours_more, hours_none}
use Rattle.strand_search.proofs.onward.on_to_end.Goals as goal

pub loop-hour-init : goal.loop-hour-init
loop-hour-init g c = record {
  here = c.requires.here;
  way = hours_none c.args.spec.now c.args.store.now c.args.from c.args.way.rows.items (state_of c.args.way.here.state);
  grow = grow_same c.args.reads.now;
}

pub loop-hour-preserved : goal.loop-hour-preserved
loop-hour-preserved g c = record {
  here = c.in_ok-at.ensures.here;
  way = hours_more c.args.spec.now c.args.store.now c.args.from c.loop-hour.hour (c.loop-hour.hour + 1) c.args.way.rows.items c.loop-hour.at.rows.items c.in_ok-at.at.rows.items (state_of c.args.way.here.state) (state_of c.loop-hour.at.here.state) (state_of c.in_ok-at.at.here.state) c.loop-hour.invariant.way c.in_ok-at.ensures.way;
  grow = grow_on c.args.reads.now c.loop-hour.reads c.on_over_hour.new.reads c.loop-hour.invariant.grow c.on_over_hour.ensures.grow;
}

pub on_over_hour-requires-clause-after : goal.on_over_hour-requires-clause-after
on_over_hour-requires-clause-after g c =
    let (n, sum, are) = c.requires.aheads in
    let hours = c.hours-hours.ensures.value in
    let lt = c.loop-hour-test.true in
    let low = c.loop-hour.auto.hour in
    ahead_here c.args.spec.now c.args.store.now n _ (c.loop-hour.hour + 1) c.args.aheads.now c.index-aheads-hours.result (omega arith) (omega arith) are c.index-aheads-hours.is
