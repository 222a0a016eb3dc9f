use Rattle.std.proofs.Common.{rules, ap, ◌∙◌, pos, w64, length, ◌<◌, get_or}
use Rattle.std.specs.Prelude.{FitsSigned}
use Rattle.std.proofs.lemmas.Int.{to_z-of_z}
use Rattle.span_set.specs.Changes.{span}
use Rattle.span_set.proofs.Cutting.{begin_is}
use Rattle.span_set.proofs.Sets.{read_is, write_is}
use Rattle.span_set.proofs.change.begin_at.Goals as goal

pub returns-then-at-len : goal.returns-then-at-len
returns-then-at-len c =
    let r = c.ranges.to in
    let items = c.args.spans.now.items in
    let s = get_or c.deref.result.now c.args.at (span (pos 0) (pos 0)) in
    let m : FitsSigned w64 c.max.result = search rules in
    let f : FitsSigned w64 s.from = search rules in
    let g : FitsSigned w64 s.to = search rules in
    let most = simp to_z-of_z at c.max.ensures.value in
    let within : c.args.at < length items = search rules in
    let read = read_is c.deref.result.now items c.args.at (span (pos 0) (pos 0)) c.deref.ensures within in
    let begun = begin_is c.args.to items c.args.at s (span c.max.result s.to) within read (ap (λ v. span v s.to) most) in
    simp to_z-of_z (write_is c.deref_mut.result.now items c.args.at (span c.max.result s.to) c.deref_mut.ensures.value ∙ begun)
