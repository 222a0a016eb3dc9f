use Rattle.detector_state.proofs.Bounds.{numbers_are_one}
use Rattle.detector_state.proofs.free_laws.numbers_are_one.Goals as goal

pub returns : goal.returns
returns c = numbers_are_one
