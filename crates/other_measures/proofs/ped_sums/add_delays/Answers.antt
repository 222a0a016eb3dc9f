use Rattle.std.proofs.Common.{arith, length}
use Rattle.other_measures.proofs.Tables.{delays_more}
use Rattle.other_measures.proofs.ped_sums.add_delays.Goals as goal

pub loop-delay-preserved : goal.loop-delay-preserved
loop-delay-preserved c = delays_more (length c.args.sums.now) c.args.delays.now c.loop-delay.delay-index _ c.of_delay.result c.loop-delay.sums c.note.new.sums (omega arith) c.of_delay.ensures c.note.ensures c.loop-delay.invariant
