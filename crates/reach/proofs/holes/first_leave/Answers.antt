use Rattle.std.proofs.Common.{rules, w64}
use Rattle.std.specs.Prelude.{FitsSigned}
use Rattle.std.proofs.lemmas.Int.{to_z-of_z}
use Rattle.reach.proofs.Crossing.{first_is}
use Rattle.reach.proofs.holes.first_leave.Goals as goal

pub returns : goal.returns
returns c =
    let rt = c.ranges.to in let rf = c.ranges.from in
    let f2 : FitsSigned w64 c.next_hole.result = search rules in
    let f1 : FitsSigned w64 c.in-Some.least = search rules in
    let f3 : FitsSigned w64 c.later.result = search rules in
    let next = simp to_z-of_z at (rw c.later.ensures at (simp to_z-of_z at c.next_hole.ensures)) in
    simp to_z-of_z (first_is _ c.args.holes.now c.in-Some.least c.args.from c.args.to c.next_hole.result c.args.floor c.requires.order c.requires.holes c.in-Some.ensures.0 c.in-Some.ensures.1 next)
