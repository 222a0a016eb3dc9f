use Rattle.std.proofs.Common.{◌∙◌}
use Rattle.arrival_measures.proofs.judged.is_known.Goals as goal

pub returns : goal.returns
returns c = λ known a b are lo. c.knows.ensures ∙ c.place_of.ensures known a b are lo
