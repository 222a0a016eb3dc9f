use Rattle.std.proofs.Common.{rules, pos, ◌+ℤ◌, w64}
use Rattle.std.specs.Prelude.{FitsSigned}
use Rattle.std.proofs.lemmas.Int.{ints, to_z-of_z}
use Rattle.reach.proofs.Changing.{rebuilt_is}
use Rattle.reach.proofs.row.change.Goals as goal

pub returns-clause-ok : goal.returns-clause-ok
returns-clause-ok c =
    let r = c.ranges.at in
    let r1 : FitsSigned w64 (c.args.at +ℤ pos 1) = search (rules, ints) in
    let starts = simp to_z-of_z at c.starts_of.ensures in
    let added = simp to_z-of_z at c.in_ok-add_each.ensures.ok in
    let settled = simp to_z-of_z at c.settle_each.ensures in
    rebuilt_is c.args.sets.now c.add_each.new.sets c.settle_each.new.sets c.args.keep c.args.enter c.args.at c.starts_of.result c.requires.few starts added settled
