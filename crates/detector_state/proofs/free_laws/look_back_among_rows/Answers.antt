use Rattle.detector_state.proofs.Among.{look_back_among_rows}
use Rattle.detector_state.proofs.free_laws.look_back_among_rows.Goals as goal

pub returns : goal.returns
returns c = look_back_among_rows
