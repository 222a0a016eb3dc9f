use Rattle.detector_state.proofs.Switching.{switches_are_ordered}
use Rattle.detector_state.proofs.laws.switches_are_ordered.Goals as goal

pub returns : goal.returns
returns c = switches_are_ordered
