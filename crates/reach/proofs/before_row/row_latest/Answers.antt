use Rattle.std.proofs.Common.{arith, length, ◌<◌, ◌≤ℤ◌}
use Rattle.std.proofs.lemmas.Int.{to_z-of_z}
use Rattle.reach.specs.Ahead.{BeforeRow}
use Rattle.reach.proofs.Later.{length_set, set_more, none_after}
use Rattle.reach.proofs.before_row.row_latest.Goals as goal

pub loop-colour-preserved : goal.loop-colour-preserved
loop-colour-preserved g c =
    let m = g.M.Machine.rules c.args.machine.now in
    let r = c.ranges.at in
    let i = simp to_z-of_z at c.loop-colour.invariant in
    let few = (g.met.M.Machine.laws c.args.machine.now).few_colours in
    let within : c.loop-colour.colour < length c.loop-colour.new = (let l = i.0 in let e = c.colours-colour-end.ensures in omega arith) in
    let one = simp to_z-of_z at c.row_one.ensures in
    (length_set _ _ _ i.0, simp to_z-of_z (set_more (λ s. (s.entry ≤ℤ c.args.at) × BeforeRow m c.args.latest.now c.args.at c.args.letter s) c.loop-colour.new c.loop-colour.colour c.row_one.result within i.1 one), none_after c.loop-colour.new c.loop-colour.colour c.row_one.result i.2)
