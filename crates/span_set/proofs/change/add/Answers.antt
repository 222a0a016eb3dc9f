use Rattle.std.proofs.Common.{arith, rules, pos, ◌-ℤ◌, sym, ◌∙◌, w64}
use Rattle.std.specs.Prelude.{FitsSigned}
use Rattle.std.proofs.lemmas.Int.{ints, to_z-of_z}
use Rattle.span_set.proofs.Adding.{add_end}
use Rattle.span_set.proofs.change.add.Goals as goal

pub returns-then-all_ended-clause-ok : goal.returns-then-all_ended-clause-ok
returns-then-all_ended-clause-ok c =
    let rf = c.ranges.from in
    let r1 : FitsSigned w64 (c.args.from -ℤ pos 1) = search (rules, ints) in
    let ended = simp (to_z-of_z, c.deref.ensures) at (c.all_ended.ensures c.if-all_ended.true) in
    let rt = c.ranges.to in
    let pushed = simp to_z-of_z at c.in_ok-push.ensures.ok in
    pushed ∙ sym (add_end c.args.from c.args.to (c.args.from -ℤ pos 1) c.args.spans.now.items (omega (arith, ints)) ended)
