use Rattle.std.proofs.Common.{arith}
use Rattle.std.proofs.lemmas.Int.{ints, clamps}
use Rattle.reach.proofs.Alone.{on_ok}
use Rattle.reach.proofs.Putting.{part_any, part_least, part_most}
use Rattle.reach.proofs.put.leave_range.Goals as goal

pub returns-in-Any : goal.returns-in-Any
returns-in-Any c =
    let v = c.aged-first.ensures in
    let low = c.requires.begin in
    let top = c.requires.end in
    let some = c.requires.some in
    on_ok c.add_since.result _ _ (part_any c.args.range c.args.times _ c.args.into.now c.add_since.new.set c.in-Any.is c.requires.some (omega (arith, ints))) c.add_since.ensures

pub returns-in-AtLeast : goal.returns-in-AtLeast
returns-in-AtLeast c =
    let u = c.aged-first.ensures in
    let z = c.aged-later.ensures in
    let v = c.max.ensures.value in
    let low = c.requires.begin in
    let top = c.requires.end in
    let some = c.requires.some in
    on_ok c.add_since-in-AtLeast.result _ _ (part_least c.args.range c.args.times c.in-AtLeast.age _ c.aged-first.result c.aged-later.result c.args.into.now c.add_since-in-AtLeast.new.set c.in-AtLeast.is c.requires.some (omega (arith, ints, clamps)) (omega (arith, ints)) (omega (arith, ints))) c.add_since-in-AtLeast.ensures

pub returns-in-AtMost : goal.returns-in-AtMost
returns-in-AtMost c =
    let u = c.aged-first.ensures in
    let z = c.aged-end.ensures in
    let low = c.requires.begin in
    let top = c.requires.end in
    let some = c.requires.some in
    on_ok c.add_within.result _ _ (part_most c.args.range c.args.times c.in-AtMost.age _ _ c.args.into.now c.add_within.new.set c.in-AtMost.is c.if-times-age.true c.requires.some (omega (arith, ints)) (omega (arith, ints))) c.add_within.ensures
