use Rattle.std.proofs.Common.{rules, arith, ◌<◌, ◌-◌, w64}
use Rattle.std.specs.Prelude.{FitsSigned}
use Rattle.std.proofs.lemmas.Int.{to_z-of_z}
use Rattle.reach.proofs.Returning.{prev_none, prev_is, begun_low}
use Rattle.reach.proofs.before_holes.prev_hole.Goals as goal

pub returns-then-begun-eq0 : goal.returns-then-begun-eq0
returns-then-begun-eq0 c =
    let ry = c.ranges.tenth in
    let after = simp to_z-of_z at c.begun_by-begun.ensures.next in
    prev_none c.args.holes.now c.args.tenth c.begun_by-begun.result c.if-begun-eq0.true after

pub until-requires : goal.until-requires
until-requires c =
    let n = c.begun_by-begun.result in
    let w = c.begun_by-begun.ensures.within in
    let ne = c.if-begun-eq0.false in
    begun_low c.args.holes.now (n - 1) _ c.requires (omega arith)

pub returns : goal.returns
returns c =
    let n = c.begun_by-begun.result in
    let ry = c.ranges.tenth in
    let w = c.begun_by-begun.ensures.within in
    let ne = c.if-begun-eq0.false in
    let some : 0 < n = omega arith in
    let f : FitsSigned w64 c.until.result = search rules in
    let least = simp to_z-of_z at c.until.ensures in
    let begun = simp to_z-of_z at c.begun_by-begun.ensures.begun in
    let after = simp to_z-of_z at c.begun_by-begun.ensures.next in
    simp to_z-of_z (prev_is c.args.holes.now c.args.tenth c.until.result n _ c.requires some w (begun (n - 1) _ (omega arith)) after least)
