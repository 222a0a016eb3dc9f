use Rattle.arrival_measures.proofs.Picking.{may_work_is, no_place}
use Rattle.arrival_measures.proofs.arrivals.may_work.Goals as goal

pub returns-in-Some : goal.returns-in-Some
returns-in-Some c = λ log is row. may_work_is c.args.config.now log c.args.index c.args.row.now c.in-Some.spec c.is_sure.result c.in-Some.ensures.value (c.is_sure.ensures log is row)

pub returns-in-None : goal.returns-in-None
returns-in-None c = λ log is row. no_place c.args.config.now log c.args.index c.args.row.now c.in-None.ensures.value
