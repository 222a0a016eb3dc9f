use Rattle.detector_state.proofs.Bounds.{numbers_reached}
use Rattle.detector_state.proofs.free_laws.numbers_reached.Goals as goal

pub returns : goal.returns
returns c = numbers_reached
