use Rattle.std.proofs.Common.{arith}
use Rattle.std.proofs.lemmas.Int.{to_z-of_z}
use Rattle.reach.proofs.Later.{then_iff}
use Rattle.gap_ways.proofs.Asking.{old_seen}
use Rattle.gap_ways.proofs.ask.has_old.Goals as goal

pub returns : goal.returns
returns g c =
    let ra = c.ranges.at in
    let lt = c.requires.colour in
    let n = c.colours.ensures in
    let states = c.end-all.ensures.states in
    let sees = simp to_z-of_z at c.possible.ensures.some_true in
    rw c.floor.ensures at (then_iff sees (old_seen c.args.past.now c.end-all.result c.colours.result c.only.result c.floor.result c.args.colour c.args.at c.only.ensures states (omega arith) c.requires.high))
