use Rattle.std.proofs.Common.{rules, get_or, pos, w64}
use Rattle.std.proofs.lemmas.Int.{to_z-of_z}
use Rattle.std.specs.Prelude.{FitsSigned}
use Rattle.span_set.proofs.Sets.{least_at}
use Rattle.span_set.specs.Changes.{span}
use Rattle.span_set.proofs.search.least_in.Goals as goal

pub returns-in-len1-up : goal.returns-in-len1-up
returns-in-len1-up c =
    let f : FitsSigned w64 (get_or c.args.spans.now 0 (span (pos 0) (pos 0))).from = search rules in
    simp to_z-of_z (least_at c.args.spans.now _ c.requires c.in-len1-up.len_at_least)
