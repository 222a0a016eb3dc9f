use Rattle.lost_laws.proofs.Histories.{row_back, term_back}
use Rattle.lost_laws.proofs.laws.one_channel_is_enough.Goals as goal

pub returns : goal.returns
returns c = record { interval = row_back; clause = term_back }
