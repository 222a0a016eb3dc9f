use Rattle.detector_state.proofs.state_asked.holds.Goals as goal

pub returns-in-Colour : goal.returns-in-Colour
returns-in-Colour c = rw c.in-Colour.is c.has_in_all.ensures

pub returns-in-NoneOf : goal.returns-in-NoneOf
returns-in-NoneOf c = rw c.in-NoneOf.is c.is_open.ensures
