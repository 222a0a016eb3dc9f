use Rattle.std.proofs.Common.{rules, arith, ◌<◌, w64, get_or, [], length}
use Rattle.std.specs.Prelude.{FitsSigned}
use Rattle.std.proofs.lemmas.Int.{to_z-of_z}
use Rattle.reach.specs.Arrivals.{IsFirst}
use Rattle.reach.proofs.Lowering.{place_more, length_same}
use Rattle.gap_ways.proofs.rounds.departures.Goals as goal

pub loop-colour-preserved : goal.loop-colour-preserved
loop-colour-preserved g c =
    let m = g.M.Machine.rules c.args.machine.now in
    let few = (g.met.M.Machine.laws c.args.machine.now).few_colours in
    let rf = c.ranges.from in let rt = c.ranges.to in
    let i = simp to_z-of_z at c.loop-colour.invariant in
    let within : c.loop-colour.colour < length c.loop-colour.new = (let l = i.0 in let e = c.colours-colour-end.ensures in omega arith) in
    let f3 : FitsSigned w64 c.first_old.result = search rules in
    let first = simp to_z-of_z at c.first_old.ensures in
    (length_same _ _ _ i.0, simp to_z-of_z (place_more (λ k x. IsFirst (get_or c.args.past.now k []) (m.floor k) c.args.from c.args.to x) c.loop-colour.new c.loop-colour.colour c.first_old.result within i.1 first))
