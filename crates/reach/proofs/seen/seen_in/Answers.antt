use Rattle.std.proofs.Common.{arith, ◌≡◌, ◌∙◌, get_or, [], None, length}
use Rattle.std.proofs.lemmas.List.{get_or_default}
use Rattle.reach.specs.Tests.{SeenTrue, SeenFalse}
use Rattle.reach.proofs.Later.{then_iff}
use Rattle.reach.proofs.Seeing.{some_more, all_true, all_false, or_is}
use Rattle.reach.proofs.seen.seen_in.Goals as goal

pub loop-colour-preserved : goal.loop-colour-preserved
loop-colour-preserved c =
    let lt = c.loop-colour-test.true in
    let one = c.index-sets-colour.is ∙ get_or_default c.args.sets.now c.loop-colour.colour c.index-sets-colour.result [] lt in
    let two = c.index-sets-colour-in-loop-colour.is ∙ get_or_default c.args.sets.now c.loop-colour.colour c.index-sets-colour-in-loop-colour.result [] lt in
    let t = rw one at c.seen_true.ensures in
    let f = rw two at c.seen_false.ensures in (
      some_more (λ k. SeenTrue (get_or c.args.sets.now k []) (get_or c.args.latest.now k None) k c.args.test.now) c.loop-colour.colour _ _ _ c.loop-colour.invariant.0 t (or_is _ _),
      some_more (λ k. SeenFalse (get_or c.args.sets.now k []) (get_or c.args.latest.now k None) k c.args.test.now) c.loop-colour.colour _ _ _ c.loop-colour.invariant.1 f (or_is _ _),
    )

pub returns : goal.returns
returns c =
    let all : c.loop-colour.colour ≡ length c.args.sets.now = omega arith in
    record {
      some_true = then_iff c.loop-colour.invariant.0 (all_true c.args.sets.now c.args.latest.now c.args.test.now c.loop-colour.colour all);
      some_false = then_iff c.loop-colour.invariant.1 (all_false c.args.sets.now c.args.latest.now c.args.test.now c.loop-colour.colour all);
    }
