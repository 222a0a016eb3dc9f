use Rattle.std.proofs.Common.{arith}
use Rattle.service_cut.proofs.Rooms.{room_more, room_few, room_all}
use Rattle.service_cut.proofs.carry.room_for.Goals as goal

pub loop-phase-preserved : goal.loop-phase-preserved
loop-phase-preserved c = record {
  left = room_more c.args.phases.now c.loop-phase.phase-index c.loop-phase.room c.room_of.result c.max-room.result _ (omega arith) c.room_of.ensures.room c.max-room.ensures c.loop-phase.invariant.left;
  few = room_few c.loop-phase.room c.room_of.result c.max-room.result c.max-room.ensures c.loop-phase.invariant.few c.room_of.ensures.few;
}

pub returns-clause-room : goal.returns-clause-room
returns-clause-room c = room_all c.args.phases.now c.loop-phase.phase-index c.loop-phase.room _ (omega arith) c.loop-phase.invariant.left

pub returns-clause-few : goal.returns-clause-few
returns-clause-few c = c.loop-phase.invariant.few
