use Rattle.std.proofs.Common.{arith, ◌-◌}
use Rattle.detector_state.proofs.Asking.{range_meets, range_fails, range_empty, no_meet}
use Rattle.detector_state.proofs.state_count.range.Goals as goal

pub returns-then-holds : goal.returns-then-holds
returns-then-holds c = λ low le high q. range_meets c.args.view.now c.args.spec c.args.asked c.args.at c.args.to (c.args.to - c.args.at) low high q ((c.holds.ensures (q c.args.at (omega arith) c.if-at-to.false).0).0 c.if-holds.true) (omega arith)

pub returns : goal.returns
returns c = λ low le high q. range_fails c.args.view.now c.args.spec c.args.asked c.args.at c.args.to low high q (no_meet _ c.holds.result (c.holds.ensures (q c.args.at (omega arith) c.if-at-to.false).0) c.if-holds.false) le

pub returns-then-at-to : goal.returns-then-at-to
returns-then-at-to c = λ low le high q. range_empty c.args.view.now c.args.spec c.args.asked c.args.at c.args.to le c.if-at-to.true
