use Rattle.detector_state.proofs.FreeColours.{colours_stay}
use Rattle.detector_state.proofs.free_laws.colours_stay.Goals as goal

pub returns : goal.returns
returns c = colours_stay
