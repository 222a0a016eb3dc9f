use Rattle.lost_laws.proofs.Channels.{clause_to, interval_to}
use Rattle.lost_laws.proofs.laws.other_rows_need_not_be_lost.Goals as goal

pub returns : goal.returns
returns c = record { interval = interval_to; clause = clause_to }
