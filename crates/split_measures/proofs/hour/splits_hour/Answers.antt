use Rattle.split_measures.proofs.Tables.{sums_by}
use Rattle.split_measures.proofs.hour.splits_hour.Goals as goal

pub returns-clause-phases : goal.returns-clause-phases
returns-clause-phases c = sums_by c.args.config.now.phases c.phases.result.now c.args.cuts.now.services c.services.result.now c.args.cuts.now.cycles c.cycles.result.now c.table_of-table.result c.in_ok-phases.phases.items c.phases.ensures.value c.services.ensures c.cycles.ensures c.table_of-table.ensures c.in_ok-phases.ensures
