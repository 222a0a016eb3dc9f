use Rattle.std.proofs.Common.{rules, pos, ◌-ℤ◌, w64}
use Rattle.std.specs.Prelude.{FitsSigned}
use Rattle.std.proofs.lemmas.Int.{ints, to_z-of_z}
use Rattle.reach.proofs.past.clamp_all.Goals as goal

pub returns : goal.returns
returns c =
    let r = c.ranges.point in
    let f : FitsSigned w64 (c.args.point -ℤ pos 36001) = search (rules, ints) in
    simp to_z-of_z at c.clamp_sets.ensures
