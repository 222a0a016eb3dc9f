use Rattle.detector_state.proofs.Bounds.{numbers_stay}
use Rattle.detector_state.proofs.free_laws.numbers_stay.Goals as goal

pub returns : goal.returns
returns c = numbers_stay
