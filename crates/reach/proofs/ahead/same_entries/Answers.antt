use Rattle.std.proofs.lemmas.Slice.Eq.{slice_eq-Decides}
use Rattle.reach.proofs.Entering.{option_decides}
use Rattle.reach.proofs.ahead.same_entries.Goals as goal

pub returns : goal.returns
returns c = slice_eq-Decides option_decides _ _ _ c.eq.ensures
