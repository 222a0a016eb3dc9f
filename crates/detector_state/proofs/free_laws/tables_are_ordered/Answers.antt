use Rattle.detector_state.proofs.Tables.{tables_are_ordered}
use Rattle.detector_state.proofs.free_laws.tables_are_ordered.Goals as goal

pub returns : goal.returns
returns c = tables_are_ordered
