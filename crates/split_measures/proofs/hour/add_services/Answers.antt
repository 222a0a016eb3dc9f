use Rattle.std.proofs.Common.{arith, length}
use Rattle.split_measures.proofs.Tables.{services_more}
use Rattle.split_measures.proofs.hour.add_services.Goals as goal

pub loop-service-preserved : goal.loop-service-preserved
loop-service-preserved c = services_more (length c.args.sums.now) c.args.services.now c.loop-service.service-index _ c.of_service.result c.loop-service.sums c.note.new.sums (omega arith) c.of_service.ensures c.note.ensures c.loop-service.invariant
