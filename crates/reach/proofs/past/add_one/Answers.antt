use Rattle.std.proofs.Common.{rules, pos, ◌+ℤ◌, w64}
use Rattle.std.specs.Prelude.{FitsSigned}
use Rattle.std.proofs.lemmas.Int.{ints, to_z-of_z}
use Rattle.reach.proofs.Alone.{set_is, tenth_alone}
use Rattle.reach.proofs.past.add_one.Goals as goal

pub returns : goal.returns
returns c =
    let r = c.ranges.entry in
    let f : FitsSigned w64 (c.args.entry +ℤ pos 1) = search (rules, ints) in
    let ok = simp to_z-of_z at c.in_ok-add.ensures.ok in
    set_is c.add.new.self c.args.entry c.add.ensures.ordered c.requires.low c.requires.high (λ x. tenth_alone c.args.entry x c.args.set.now c.add.new.self c.requires.empty ok)
