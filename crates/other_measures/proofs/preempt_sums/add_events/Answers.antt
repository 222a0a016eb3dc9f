use Rattle.std.proofs.Common.{arith, length}
use Rattle.other_measures.proofs.Tables.{events_more}
use Rattle.other_measures.proofs.preempt_sums.add_events.Goals as goal

pub loop-event-preserved : goal.loop-event-preserved
loop-event-preserved c = events_more (length c.args.sums.now) c.args.events.now c.loop-event.event-index _ c.of_event.result c.loop-event.sums c.note.new.sums (omega arith) c.of_event.ensures c.note.ensures c.loop-event.invariant
