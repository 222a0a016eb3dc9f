use Rattle.detector_state.proofs.Spread.{look_back}
use Rattle.detector_state.proofs.free_laws.look_back.Goals as goal

pub returns : goal.returns
returns c = look_back
