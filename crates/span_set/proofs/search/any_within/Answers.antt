use Rattle.std.proofs.Common.{arith, refl, pos}
use Rattle.span_set.specs.Changes.{span}
use Rattle.std.proofs.lemmas.Int.{ints, clamps, to_z-of_z}
use Rattle.span_set.proofs.Sets.{any_found, any_skip}
use Rattle.span_set.proofs.search.any_within.Goals as goal

pub returns-then-max-min : goal.returns-then-max-min
returns-then-max-min c =
    let rf = c.ranges.from in let rt = c.ranges.to in
    let inv = simp to_z-of_z at c.loop-s.invariant in
    (λ _. inv.0 (any_found c.args.from c.args.to c.args.spans.now c.loop-s.s-index (span (pos 0) (pos 0)) c.loop-s-test.true (omega (arith, ints, clamps))), λ _. refl)

pub loop-s-preserved : goal.loop-s-preserved
loop-s-preserved c = let rf = c.ranges.from in let rt = c.ranges.to in simp to_z-of_z (let inv = simp to_z-of_z at c.loop-s.invariant in let k = any_skip c.args.from c.args.to c.args.spans.now c.loop-s.s-index (span (pos 0) (pos 0)) c.loop-s-test.true (omega (arith, ints, clamps)) in (λ a. inv.0 (k.1 a), λ a. k.0 (inv.1 a)))
