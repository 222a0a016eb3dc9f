use Rattle.std.proofs.Common.{rules, length, ◌≡◌}
use Rattle.std.proofs.lemmas.Int.{to_z-of_z}
use Rattle.reach.proofs.Putting.{raise_is}
use Rattle.reach.proofs.put.ahead_raise.Goals as goal

pub returns-clause-states : goal.returns-clause-states
returns-clause-states c =
    let r = c.ranges.entry in
    let sixteen : length c.ahead.inside.latest ≡ 16 = search rules in
    let h = simp to_z-of_z at c.later-new.ensures in
    raise_is c.ahead.inside.colours c.args.colour c.ahead.inside.latest c.args.ahead.now c.later-new.result c.args.entry sixteen c.ahead.invariant c.ahead.view_is c.requires h
