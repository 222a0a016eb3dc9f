use Rattle.std.proofs.Common.{pos, negsuc, ◌^◌}
use Rattle.span_set.specs.Changes.{span}
use Rattle.reach.proofs.Putting.{range_bounds, range_high, ranges_more}
use Rattle.reach.proofs.put.add_ranges.Goals as goal

pub add_range-requires-clause-low : goal.add_range-requires-clause-low
add_range-requires-clause-low c = (range_bounds (negsuc (2 ^ 40)) c.args.ranges.now c.loop-i.i (span (pos 0) (pos 0)) c.requires.ordered c.loop-i-test.true).0

pub add_range-requires-clause-some : goal.add_range-requires-clause-some
add_range-requires-clause-some c = (range_bounds (negsuc (2 ^ 40)) c.args.ranges.now c.loop-i.i (span (pos 0) (pos 0)) c.requires.ordered c.loop-i-test.true).1

pub add_range-requires-clause-high : goal.add_range-requires-clause-high
add_range-requires-clause-high c = range_high c.args.ranges.now c.loop-i.i (span (pos 0) (pos 0)) c.requires.ordered c.requires.high c.loop-i-test.true

pub loop-i-preserved : goal.loop-i-preserved
loop-i-preserved c = ranges_more c.args.ranges.now c.args.set.now c.loop-i.set c.add_range.new.set c.loop-i.i _ c.loop-i-test.true c.loop-i.invariant c.in_ok-add_range.ensures
