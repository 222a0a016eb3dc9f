use Rattle.std.proofs.Common.{pos, negsuc, ◌^◌}
use Rattle.span_set.specs.Changes.{span}
use Rattle.reach.proofs.Putting.{left_more, range_bounds}
use Rattle.reach.proofs.put.leave_each.Goals as goal

pub leave_range-requires-clause-begin : goal.leave_range-requires-clause-begin
leave_range-requires-clause-begin c = (range_bounds (negsuc (2 ^ 40)) c.args.ranges.now c.loop-i.i (span (pos 0) (pos 0)) c.requires.ordered c.loop-i-test.true).0

pub leave_range-requires-clause-some : goal.leave_range-requires-clause-some
leave_range-requires-clause-some c = (range_bounds (negsuc (2 ^ 40)) c.args.ranges.now c.loop-i.i (span (pos 0) (pos 0)) c.requires.ordered c.loop-i-test.true).1

pub leave_range-requires-clause-end : goal.leave_range-requires-clause-end
leave_range-requires-clause-end c = (range_bounds (negsuc (2 ^ 40)) c.args.ranges.now c.loop-i.i (span (pos 0) (pos 0)) c.requires.ordered c.loop-i-test.true).2

pub loop-i-preserved : goal.loop-i-preserved
loop-i-preserved c = left_more c.args.ranges.now c.args.into.now c.loop-i.into c.leave_range.new.into c.args.times c.loop-i.i _ c.loop-i-test.true c.loop-i.invariant c.in_ok-leave_range.ensures
