use Rattle.arrival_measures.proofs.Over.{open_nil}
use Rattle.arrival_measures.proofs.open.Open.begin.Goals as goal

pub returns : goal.returns
returns c = λ p d rows. open_nil p d c.args.from rows
