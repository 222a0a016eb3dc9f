use Rattle.detector_state.proofs.Spread.{extremes}
use Rattle.detector_state.proofs.free_laws.extremes.Goals as goal

pub returns : goal.returns
returns c = extremes
