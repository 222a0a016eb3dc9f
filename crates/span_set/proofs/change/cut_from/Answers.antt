use Rattle.std.proofs.Common.{◌∙◌, sym, length, ◌≤◌}
use Rattle.std.proofs.lemmas.Int.{to_z-of_z}
use Rattle.span_set.proofs.Cutting.{keep_split}
use Rattle.span_set.proofs.change.cut_from.Goals as goal

pub returns : goal.returns
returns c =
    let r = c.ranges.from in
    let within : c.ended_by-kept.result ≤ length c.args.spans.now.items = simp c.deref.ensures at c.ended_by-kept.ensures.within in
    let ended = simp (to_z-of_z, c.deref.ensures) at c.ended_by-kept.ensures.ended in
    let next = simp (to_z-of_z, c.deref.ensures) at c.ended_by-kept.ensures.next in
    simp to_z-of_z at c.trim.ensures ∙ sym (keep_split c.args.from c.args.spans.now.items c.ended_by-kept.result within ended next)
