use Rattle.lost_laws.proofs.Ends.{needs_end}
use Rattle.lost_laws.proofs.Rows.{needs_row}
use Rattle.lost_laws.proofs.laws.parts_tell_the_number.Goals as goal

pub returns : goal.returns
returns c = record { interval = needs_row; clause = needs_end }
