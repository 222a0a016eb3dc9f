use Rattle.std.proofs.Common.{arith}
use Rattle.std.proofs.lemmas.Int.{ints, to_z-of_z}
use Rattle.reach.specs.Runs.{state}
use Rattle.reach.proofs.Arriving.{gap_added}
use Rattle.reach.proofs.gap.gap_sets.Goals as goal

pub add_each-requires-clause-before : goal.add_each-requires-clause-before
add_each-requires-clause-before g c =
    let rf = c.ranges.from in let rt = c.ranges.to in
    let first = simp to_z-of_z at c.departures-departure.ensures in
    let arr = (simp to_z-of_z at c.arrivals-arrival.ensures) c.args.sets.now c.requires.colours first in
    λ k lt e m. let p = c.requires.place (state k e) m in let q = (arr.0.1 k lt).0 in omega (arith, ints)

pub returns-clause-after : goal.returns-clause-after
returns-clause-after g c =
    let m = g.M.Machine.rules c.args.machine.now in
    let laws = g.met.M.Machine.laws c.args.machine.now in
    let rf = c.ranges.from in let rt = c.ranges.to in
    let first = simp to_z-of_z at c.departures-departure.ensures in
    let arr = (simp to_z-of_z at c.arrivals-arrival.ensures) c.args.sets.now c.requires.colours first in
    let added = simp to_z-of_z at c.in_ok-add_each.ensures.ok in
    gap_added m c.args.sets.now c.add_each.new.sets c.args.from c.args.to c.arrivals-arrival.result laws c.requires.colours arr added
