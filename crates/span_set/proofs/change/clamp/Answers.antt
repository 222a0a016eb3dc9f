use Rattle.std.proofs.Common.{rules, ◌∙◌, sym, ap, refl, ◌+◌, pos, ◌+ℤ◌, w64, ◌∷◌, drop, length, ◌≤◌, get_or}
use Rattle.std.specs.Prelude.{FitsSigned}
use Rattle.std.proofs.lemmas.Int.{ints, to_z-of_z}
use Rattle.span_set.specs.Changes.{span}
use Rattle.span_set.proofs.Clamping.{squash_begin, squash_gap, squash_split, passed_some}
use Rattle.span_set.proofs.change.clamp.Goals as goal

pub returns-then-begins_by : goal.returns-then-begins_by
returns-then-begins_by c =
    let r = c.ranges.limit in
    let r1 : FitsSigned w64 (c.args.limit +ℤ pos 1) = search (rules, ints) in
    let within = simp c.deref-2.ensures at (c.if-begins_by.ensures.within refl) in
    let yes = simp (to_z-of_z, c.deref-2.ensures) at (c.if-begins_by.ensures.yes refl) in
    let next = simp (to_z-of_z, c.deref.ensures) at c.ended_by-passed.ensures.next in
    let least : c.ended_by-passed.result ≤ length c.args.spans.now.items = simp c.deref.ensures at c.ended_by-passed.ensures.within in
    let ended = simp (to_z-of_z, c.deref.ensures) at c.ended_by-passed.ensures.ended in
    let same = squash_split c.args.limit c.args.spans.now.items c.ended_by-passed.result least ended in
    let new = simp to_z-of_z at c.put_front.ensures in
    let d = span (pos 0) (pos 0) in
    let at : FitsSigned w64 (get_or c.deref-then-begins_by.result.now c.ended_by-passed.result d).to = search rules in
    let new2 = simp to_z-of_z at new in
    new2 ∙ (ap (λ l. span c.args.limit (get_or l c.ended_by-passed.result d).to ∷ drop (c.ended_by-passed.result + 1) c.args.spans.now.items) c.deref-then-begins_by.ensures ∙ (sym (squash_begin c.args.limit c.args.spans.now.items c.ended_by-passed.result d within (next within d) (yes d)) ∙ same))

pub put_front-requires-2-clause-some : goal.put_front-requires-2-clause-some
put_front-requires-2-clause-some c =
    let r = c.ranges.limit in
    let r1 : FitsSigned w64 (c.args.limit +ℤ pos 1) = search (rules, ints) in
    let no = simp (to_z-of_z, c.deref-2.ensures) at (c.if-begins_by.ensures.no refl) in
    passed_some c.args.limit c.args.spans.now.items c.ended_by-passed.result c.requires.below no

pub returns : goal.returns
returns c =
    let r = c.ranges.limit in
    let r1 : FitsSigned w64 (c.args.limit +ℤ pos 1) = search (rules, ints) in
    let no = simp (to_z-of_z, c.deref-2.ensures) at (c.if-begins_by.ensures.no refl) in
    let next = simp (to_z-of_z, c.deref.ensures) at c.ended_by-passed.ensures.next in
    let least : c.ended_by-passed.result ≤ length c.args.spans.now.items = simp c.deref.ensures at c.ended_by-passed.ensures.within in
    let ended = simp (to_z-of_z, c.deref.ensures) at c.ended_by-passed.ensures.ended in
    let same = squash_split c.args.limit c.args.spans.now.items c.ended_by-passed.result least ended in
    let new = simp to_z-of_z at c.put_front-2.ensures in
    new ∙ (sym (squash_gap c.args.limit c.args.spans.now.items c.ended_by-passed.result (λ l d. (next l d, no l d))) ∙ same)
