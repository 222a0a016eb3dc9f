use Rattle.std.proofs.Common.{arith, rules, negsuc, pos, ◌^◌, ◌-◌, w64, get_or, length}
use Rattle.std.specs.Prelude.{FitsSigned}
use Rattle.std.proofs.lemmas.Int.{to_z-of_z}
use Rattle.span_set.specs.Changes.{span}
use Rattle.span_set.proofs.Adding.{last_ends}
use Rattle.span_set.proofs.search.all_ended.Goals as goal

pub returns-in-len1-up : goal.returns-in-len1-up
returns-in-len1-up c = λ h.
    let r = c.ranges.at in
    let some = c.in-len1-up.len_at_least in
    let last = length c.args.spans.now - 1 in
    let f : FitsSigned w64 (get_or c.args.spans.now last (span (pos 0) (pos 0))).to = search rules in
    let by = simp to_z-of_z at (c.is_by.ensures.0 h) in
    last_ends (negsuc (2 ^ 40)) c.args.at c.args.spans.now last (span (pos 0) (pos 0)) c.requires (omega arith) by
