use Rattle.std.proofs.Common.{rules, arith, ◌<◌, w64, length}
use Rattle.std.specs.Prelude.{FitsSigned}
use Rattle.std.proofs.lemmas.Int.{to_z-of_z}
use Rattle.reach.specs.Sets.{IsStart}
use Rattle.reach.proofs.Lowering.{place_more, length_same}
use Rattle.reach.proofs.sets.starts_of.Goals as goal

pub loop-colour-preserved : goal.loop-colour-preserved
loop-colour-preserved c =
    let r = c.ranges.tenth in
    let f : FitsSigned w64 c.start_of.result = search rules in
    let i = simp to_z-of_z at c.loop-colour.invariant in
    let within : c.loop-colour.colour < length c.loop-colour.starts = (let l = i.0 in let b = c.loop-colour-test.true in omega arith) in
    let one = simp to_z-of_z at c.start_of.ensures in
    (length_same _ _ _ i.0, simp to_z-of_z (place_more (λ k x. IsStart c.args.enter c.args.tenth k x) c.loop-colour.starts c.loop-colour.colour c.start_of.result within i.1 one))
