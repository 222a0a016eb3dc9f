use Rattle.std.proofs.lemmas.Slice.Eq.{slice_eq-Decides}
use Rattle.span_set.proofs.Sets.{span_eq}
use Rattle.span_set.proofs.search.are_equal.Goals as goal

pub returns : goal.returns
returns c = slice_eq-Decides span_eq _ _ _ c.eq.ensures
