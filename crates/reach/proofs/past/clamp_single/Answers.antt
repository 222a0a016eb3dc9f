use Rattle.std.proofs.Common.{rules, refl, w64, pos, ◌-ℤ◌}
use Rattle.std.specs.Prelude.{FitsSigned}
use Rattle.std.proofs.lemmas.Int.{ints, to_z-of_z}
use Rattle.reach.proofs.Alone.{single_clamped}
use Rattle.reach.proofs.past.clamp_single.Goals as goal

pub returns-clause-clamped : goal.returns-clause-clamped
returns-clause-clamped c =
    let r = c.ranges.point in
    let f : FitsSigned w64 c.args.one.entry = search rules in
    let g : FitsSigned w64 (c.args.point -ℤ pos 36001) = search (rules, ints) in
    let most = simp to_z-of_z at c.max.ensures.value in
    let f2 : FitsSigned w64 c.max.result = search rules in
    simp to_z-of_z (single_clamped c.args.one _ (c.args.point -ℤ pos 36001) c.requires.single refl refl most)
