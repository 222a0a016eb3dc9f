use Rattle.std.proofs.Common.{rules, arith, ◌∙◌, ap, pos, ◌-ℤ◌, w64, ◌∷◌, ◌++◌, take, length, ◌≤◌}
use Rattle.std.specs.Prelude.{FitsSigned}
use Rattle.std.proofs.lemmas.Int.{ints, to_z-of_z}
use Rattle.std.proofs.lemmas.List.{drop-drop}
use Rattle.span_set.proofs.Adding.{add_split}
use Rattle.span_set.proofs.Sets.{suffix}
use Rattle.span_set.proofs.change.add_within.Goals as goal

pub returns-clause-ok : goal.returns-clause-ok
returns-clause-ok c =
    let rf = c.ranges.from in
    let rt = c.ranges.to in
    let r1 : FitsSigned w64 (c.args.from -ℤ pos 1) = search (rules, ints) in
    let within : c.ended_by-first.result ≤ length c.args.spans.now.items = simp c.deref.ensures at c.ended_by-first.ensures.within in
    let ended = simp (to_z-of_z, c.deref.ensures) at c.ended_by-first.ensures.ended in
    let next = simp (to_z-of_z, c.deref.ensures) at c.ended_by-first.ensures.next in
    let all = add_split c.args.from c.args.to (c.args.from -ℤ pos 1) c.args.spans.now.items c.ended_by-first.result (omega (arith, ints)) within ended next in
    let back = suffix c.args.spans.now.items c.ended_by-first.result within in
    let join = simp (to_z-of_z, c.deref-2.ensures, back) at c.joined-joint.ensures.join in
    let is = all ∙ ap (λ l. take c.ended_by-first.result c.args.spans.now.items ++ l) (join ∙ ap (λ l. c.joined-joint.result.range ∷ l) (drop-drop c.joined-joint.result.count c.ended_by-first.result c.args.spans.now.items)) in
    rw is c.put_in_place.ensures.ok
