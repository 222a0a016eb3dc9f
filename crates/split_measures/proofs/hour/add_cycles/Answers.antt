use Rattle.std.proofs.Common.{arith, length}
use Rattle.split_measures.proofs.Tables.{cycles_more}
use Rattle.split_measures.proofs.hour.add_cycles.Goals as goal

pub loop-cycle-preserved : goal.loop-cycle-preserved
loop-cycle-preserved c = cycles_more (length c.args.sums.now) c.args.services.now c.args.cycles.now c.loop-cycle.cycle-index _ c.of_cycle.result c.loop-cycle.sums c.note.new.sums (omega arith) c.of_cycle.ensures c.note.ensures c.loop-cycle.invariant
