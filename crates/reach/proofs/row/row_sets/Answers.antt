use Rattle.std.proofs.lemmas.Int.{to_z-of_z}
use Rattle.reach.specs.Runs.{state}
use Rattle.reach.proofs.States.{row_rebuilt}
use Rattle.reach.proofs.row.row_sets.Goals as goal

pub change-requires-clause-last : goal.change-requires-clause-last
change-requires-clause-last g c =
    let r = c.ranges.at in
    λ k e m. simp to_z-of_z (c.requires.place (state k e) m)

pub returns-clause-after : goal.returns-clause-after
returns-clause-after g c =
    let m = g.M.Machine.rules c.args.machine.now in
    let r = c.ranges.at in
    let leave = simp to_z-of_z at c.leaving-leave.ensures in
    let rebuilt = simp to_z-of_z at c.in_ok-change.ensures.ok in
    row_rebuilt m c.args.sets.now c.change.new.sets c.args.at c.args.letter c.kept.result c.leaving-leave.result c.entered-enter.result (g.met.M.Machine.laws c.args.machine.now) leave c.kept.ensures c.entered-enter.ensures c.requires.colours rebuilt
