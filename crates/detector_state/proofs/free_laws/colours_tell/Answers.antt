use Rattle.detector_state.proofs.FreeColours.{colours_tell}
use Rattle.detector_state.proofs.free_laws.colours_tell.Goals as goal

pub returns : goal.returns
returns c = colours_tell
