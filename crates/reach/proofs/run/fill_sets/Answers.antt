use Rattle.std.proofs.Common.{rules, arith, w64, length, ◌<◌, []}
use Rattle.std.specs.Prelude.{FitsSigned}
use Rattle.std.proofs.lemmas.Int.{to_z-of_z}
use Rattle.std.proofs.lemmas.List.{get_or_default}
use Rattle.reach.specs.Sets.{at}
use Rattle.reach.proofs.Filling.{filled_more}
use Rattle.reach.proofs.run.fill_sets.Goals as goal

pub loop-colour-preserved : goal.loop-colour-preserved
loop-colour-preserved c =
    let f : FitsSigned w64 (at c.args.starts.now c.loop-colour.colour) = search rules in
    let i = c.loop-colour.invariant in
    let lt : c.loop-colour.colour < length c.loop-colour.sets = (let b = c.loop-colour-test.true in let l = i.0.0 in omega arith) in
    let one = get_or_default c.loop-colour.sets c.loop-colour.colour c.index-sets-colour.result [] lt in
    let add = rw one at (simp to_z-of_z at c.in_ok-fill_set.ensures) in
    filled_more c.args.sets.now c.loop-colour.sets c.args.starts.now c.args.holes.now c.loop-colour.colour c.fill_set.new.set lt i.0 i.1 add
