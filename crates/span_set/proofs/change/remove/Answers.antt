use Rattle.std.proofs.Common.{rules, ◌∙◌, sym, length, ◌≤◌}
use Rattle.std.proofs.lemmas.Int.{to_z-of_z}
use Rattle.span_set.proofs.Cutting.{cut_is, removed_is}
use Rattle.span_set.proofs.Sets.{suffix}
use Rattle.span_set.proofs.change.remove.Goals as goal

pub returns-clause-ok : goal.returns-clause-ok
returns-clause-ok c =
    let rf = c.ranges.from in
    let rt = c.ranges.to in
    let within : c.ended_by-first.result ≤ length c.args.spans.now.items = simp c.deref.ensures at c.ended_by-first.ensures.within in
    let ended = simp (to_z-of_z, c.deref.ensures) at c.ended_by-first.ensures.ended in
    let next = simp (to_z-of_z, c.deref.ensures) at c.ended_by-first.ensures.next in
    let back = suffix c.args.spans.now.items c.ended_by-first.result within in
    let within2 = simp (c.deref-2.ensures, back) at c.ended_by.ensures.within in
    let ended2 = simp (to_z-of_z, c.deref-2.ensures, back) at c.ended_by.ensures.ended in
    let next2 = simp (to_z-of_z, c.deref-2.ensures, back) at c.ended_by.ensures.next in
    let all = cut_is c.args.from c.args.to c.args.spans.now.items c.ended_by-first.result c.ended_by.result within ended next within2 ended2 next2 in
    let kept = simp to_z-of_z at c.in_ok-gap.ensures.kept in
    let begun = simp to_z-of_z at c.begin_at.ensures in
    let last : c.in_ok-gap.gap.last ≤ length c.keep_before.new.spans.items = search rules in
    removed_is c.args.to c.keep_before.new.spans.items c.take_out.new.spans.items c.begin_at.new.spans.items _ _ c.in_ok-gap.gap.first c.in_ok-gap.gap.last c.in_ok-gap.ensures.order.0 last kept c.in_ok-gap.ensures.rest c.take_out.ensures begun ∙ sym all
