use Rattle.std.proofs.lemmas.Int.{to_z-of_z}
use Rattle.reach.proofs.Returning.{last_table}
use Rattle.reach.proofs.before_holes.ahead_holes.Goals as goal

pub returns-clause-last : goal.returns-clause-last
returns-clause-last g c =
    let m = g.M.Machine.rules c.args.machine.now in
    let rf = c.ranges.from in let rt = c.ranges.to in
    let last = simp to_z-of_z at c.last_holes.ensures.last in
    last_table m c.ahead.inside.colours c.ahead.inside.latest c.args.ahead.now c.args.holes.now c.args.from c.args.to c.last_holes.result c.ahead.invariant c.ahead.view_is last
