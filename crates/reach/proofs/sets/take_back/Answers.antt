use Rattle.std.proofs.Common.{rules, arith, w64, length, ◌<◌, []}
use Rattle.std.specs.Prelude.{FitsSigned}
use Rattle.std.proofs.lemmas.Int.{to_z-of_z}
use Rattle.std.proofs.lemmas.List.{get_or_default}
use Rattle.reach.specs.Sets.{at}
use Rattle.reach.proofs.Changing.{taken_more}
use Rattle.reach.proofs.sets.take_back.Goals as goal

pub loop-colour-preserved : goal.loop-colour-preserved
loop-colour-preserved c =
    let f : FitsSigned w64 (at c.args.firsts.now c.loop-colour.colour) = search rules in
    let lt : c.loop-colour.colour < length c.loop-colour.sets = (let l = c.loop-colour.invariant.0 in let k = c.requires.within in let b = c.loop-colour-test.true in omega arith) in
    let one = get_or_default c.loop-colour.sets c.loop-colour.colour c.index-sets-colour.result [] lt in
    let only = rw one at (simp to_z-of_z at c.cut_from.ensures.only) in
    taken_more c.args.sets.now c.loop-colour.sets c.args.firsts.now c.loop-colour.colour c.cut_from.new.self lt c.loop-colour.invariant only
