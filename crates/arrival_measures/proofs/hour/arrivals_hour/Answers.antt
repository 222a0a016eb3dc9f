use Rattle.std.proofs.Common.{Some}
use Rattle.arrival_measures.proofs.hour.arrivals_hour.Goals as goal

pub returns-clause-judged : goal.returns-clause-judged
returns-clause-judged c = λ known before hour log h is cut see. c.in_ok-approaches.ensures.judged known before hour (Some log) h is cut see
