use Rattle.detector_state.proofs.Bounds.{stores_tell}
use Rattle.detector_state.proofs.free_laws.stores_tell.Goals as goal

pub returns : goal.returns
returns c = stores_tell
