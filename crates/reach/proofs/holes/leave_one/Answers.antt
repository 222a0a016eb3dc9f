use Rattle.std.proofs.Common.{rules, w64}
use Rattle.std.specs.Prelude.{FitsSigned}
use Rattle.std.proofs.lemmas.Int.{to_z-of_z}
use Rattle.reach.proofs.Crossing.{leave_is}
use Rattle.reach.proofs.holes.leave_one.Goals as goal

pub returns : goal.returns
returns c =
    let rd = c.ranges.departure in let rt = c.ranges.to in let ra = c.ranges.arrival in
    let f1 : FitsSigned w64 c.min.result = search rules in
    let f2 : FitsSigned w64 c.next_hole.result = search rules in
    let f3 : FitsSigned w64 c.later.result = search rules in
    let next = simp to_z-of_z at (rw c.later.ensures at (simp to_z-of_z at c.next_hole.ensures)) in
    let least = simp to_z-of_z at c.min.ensures.value in
    simp to_z-of_z (leave_is c.args.holes.now c.args.from c.args.to c.args.departure c.args.arrival c.min.result c.next_hole.result c.args.floor c.requires.holes c.requires.end next least)
