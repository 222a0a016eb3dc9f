use Rattle.detector_state.proofs.Bounds.{numbers_bound}
use Rattle.detector_state.proofs.free_laws.numbers_bound.Goals as goal

pub returns : goal.returns
returns c = numbers_bound
