use Rattle.std.proofs.Common.{rules, arith, w64, length, ◌<◌, []}
use Rattle.std.specs.Prelude.{FitsSigned}
use Rattle.std.proofs.lemmas.Int.{to_z-of_z}
use Rattle.std.proofs.lemmas.List.{get_or_default}
use Rattle.reach.specs.Sets.{at}
use Rattle.reach.proofs.Changing.{added_more, undone, put_same}
use Rattle.reach.proofs.sets.add_each.Goals as goal

pub returns-in-Err-clause-err : goal.returns-in-Err-clause-err
returns-in-Err-clause-err c =
    let rt = c.ranges.to in
    let i = simp to_z-of_z at c.loop-colour.invariant in
    let lt : c.loop-colour.colour < length c.loop-colour.sets = (let b = c.loop-colour-test.true in let l = i.0.0 in omega arith) in
    let one = get_or_default c.loop-colour.sets c.loop-colour.colour c.index-sets-colour.result [] lt in
    let back = put_same c.loop-colour.sets c.loop-colour.colour c.add_from.new.set lt (rw one at c.in-Err.ensures.err) in
    let taken = rw back at c.take_back.ensures in
    undone c.args.sets.now c.loop-colour.sets c.take_back.new.sets c.args.starts.now c.firsts_free-firsts.result c.args.to c.loop-colour.colour c.firsts_free-firsts.ensures i.0 i.1 taken

pub loop-colour-preserved : goal.loop-colour-preserved
loop-colour-preserved c =
    let rt = c.ranges.to in
    let f : FitsSigned w64 (at c.firsts_free-firsts.result c.loop-colour.colour) = search rules in
    let i = simp to_z-of_z at c.loop-colour.invariant in
    let lt : c.loop-colour.colour < length c.loop-colour.sets = (let b = c.loop-colour-test.true in let l = i.0.0 in omega arith) in
    let one = get_or_default c.loop-colour.sets c.loop-colour.colour c.index-sets-colour.result [] lt in
    let add = rw one at (simp to_z-of_z at c.in-Ok.ensures.ok) in
    simp to_z-of_z (added_more c.args.sets.now c.loop-colour.sets c.firsts_free-firsts.result c.args.to c.loop-colour.colour c.add_from.new.set lt i.0 i.1 add)
