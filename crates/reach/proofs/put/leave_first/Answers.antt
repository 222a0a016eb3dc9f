use Rattle.std.proofs.Common.{arith}
use Rattle.reach.proofs.Alone.{on_ok}
use Rattle.reach.proofs.Putting.{left_only}
use Rattle.reach.proofs.put.leave_first.Goals as goal

pub returns : goal.returns
returns c = on_ok c.leave_range.result _ _ (left_only c.args.ranges.now c.args.into.now c.leave_range.new.into _ c.args.times c.requires.ordered (omega arith) c.requires.older) c.leave_range.ensures
