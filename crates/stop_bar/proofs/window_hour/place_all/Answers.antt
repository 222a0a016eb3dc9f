use Rattle.std.proofs.Common.{arith, take_all}
use Rattle.stop_bar.proofs.Waiting.{taken_next, taken_none}
use Rattle.stop_bar.proofs.window_hour.place_all.Goals as goal

pub loop-service-init : goal.loop-service-init
loop-service-init c = taken_none c.args.hour.first c.args.hour.end c.args.begun c.args.switched.now c.args.services.now c.args.ended.now.items c.args.waiting.now.items c.requires.empty

pub loop-service-preserved : goal.loop-service-preserved
loop-service-preserved c = taken_next c.args.hour.first c.args.hour.end c.args.begun c.args.switched.now c.args.services.now c.loop-service.service-index _ c.loop-service-test.true c.args.ended.now.items c.loop-service.ended.items c.loop-service.waiting.items c.loop-service.invariant c.place_one.new.ended.items c.place_one.new.waiting.items c.in_ok-place_one.ensures

pub returns-clause-ended : goal.returns-clause-ended
returns-clause-ended c = (rw (take_all c.loop-service.service-index c.args.services.now (omega arith)) at c.loop-service.invariant).ended

pub returns-clause-waiting : goal.returns-clause-waiting
returns-clause-waiting c = (rw (take_all c.loop-service.service-index c.args.services.now (omega arith)) at c.loop-service.invariant).waiting

pub returns-clause-numbers : goal.returns-clause-numbers
returns-clause-numbers c = c.loop-service.invariant.numbers

pub returns-clause-pending : goal.returns-clause-pending
returns-clause-pending c = c.loop-service.invariant.pending
