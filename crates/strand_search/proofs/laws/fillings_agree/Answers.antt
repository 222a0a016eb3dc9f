use Rattle.strand_search.proofs.Agreeing.{fillings_agree}
use Rattle.strand_search.proofs.laws.fillings_agree.Goals as goal

pub returns : goal.returns
returns c = fillings_agree
