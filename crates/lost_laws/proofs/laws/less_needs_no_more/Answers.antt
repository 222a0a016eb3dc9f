use Rattle.lost_laws.proofs.Less.{less_clause, less_interval}
use Rattle.lost_laws.proofs.laws.less_needs_no_more.Goals as goal

pub returns : goal.returns
returns c = record { interval = less_interval; clause = less_clause }
