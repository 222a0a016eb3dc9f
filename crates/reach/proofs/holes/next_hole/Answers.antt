use Rattle.std.proofs.Common.{rules, arith, length, ◌<◌, w64}
use Rattle.std.specs.Prelude.{FitsSigned}
use Rattle.std.proofs.lemmas.Int.{to_z-of_z}
use Rattle.reach.proofs.Crossing.{next_none, next_is}
use Rattle.reach.proofs.holes.next_hole.Goals as goal

pub returns-then-first-holes : goal.returns-then-first-holes
returns-then-first-holes c =
    let rt = c.ranges.to in let ry = c.ranges.tenth in
    let ended = simp to_z-of_z at c.ended_by-first.ensures.ended in
    simp to_z-of_z (next_none c.args.holes.now c.args.tenth c.args.to c.ended_by-first.result c.if-first-holes.true ended)

pub returns : goal.returns
returns c =
    let n = c.ended_by-first.result in
    let rt = c.ranges.to in let ry = c.ranges.tenth in
    let w = c.ended_by-first.ensures.within in
    let ne = c.if-first-holes.false in
    let lt : n < length c.args.holes.now = omega arith in
    let f : FitsSigned w64 c.within.result = search rules in
    let most = simp to_z-of_z at c.within.ensures in
    let ended = simp to_z-of_z at c.ended_by-first.ensures.ended in
    let next = simp to_z-of_z at c.ended_by-first.ensures.next in
    simp to_z-of_z (next_is c.args.holes.now c.args.from c.args.to c.args.tenth c.within.result n _ c.requires lt ended (next n _ (omega arith) lt) most)
