use Rattle.lost_laws.proofs.Window.{needs_window_end, needs_window_row}
use Rattle.lost_laws.proofs.laws.the_window_tells_the_number.Goals as goal

pub returns : goal.returns
returns c = record { interval = needs_window_row; clause = needs_window_end }
