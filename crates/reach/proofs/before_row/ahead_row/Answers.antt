use Rattle.std.proofs.Common.{rules, arith, length, ◌≡◌}
use Rattle.std.proofs.lemmas.Int.{to_z-of_z}
use Rattle.reach.proofs.Later.{same_colours, row_clause}
use Rattle.reach.proofs.before_row.ahead_row.Goals as goal

pub returns-clause-before : goal.returns-clause-before
returns-clause-before g c =
    let m = g.M.Machine.rules c.args.machine.now in
    let r = c.ranges.at in
    let sixteen : length c.ahead.inside.latest ≡ 16 = search rules in
    let size : c.ahead.inside.colours ≡ m.colours = same_colours c.ahead.inside.colours m.colours c.ahead.inside.latest c.args.ahead.now sixteen c.ahead.invariant.0 c.ahead.view_is c.requires.colours in
    let h = simp to_z-of_z at c.row_latest-ahead-inside.ensures.before in
    row_clause m c.ahead.inside.colours c.ahead.inside.latest c.row_latest-ahead-inside.result c.args.ahead.now c.args.at c.args.letter c.ahead.invariant (c.ahead.invariant.0, λ k ge. c.row_latest-ahead-inside.ensures.none k (omega arith)) c.ahead.view_is h
