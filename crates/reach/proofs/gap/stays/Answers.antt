use Rattle.std.proofs.Common.{arith}
use Rattle.std.proofs.lemmas.Int.{ints}
use Rattle.reach.proofs.Alone.{gap_stays}
use Rattle.reach.proofs.gap.stays.Goals as goal

pub returns-then-to-one : goal.returns-then-to-one
returns-then-to-one g c = λ t.
    let m = g.M.Machine.rules c.args.machine.now in
    let k = c.from.ensures in
    let e = c.floor.ensures in
    let far = c.if-to-one.true in
    gap_stays m c.args.one c.args.from c.args.to c.requires.single (let a = c.requires.some in omega (arith, ints)) (let a = c.requires.place in omega (arith, ints)) (omega (arith, ints))
