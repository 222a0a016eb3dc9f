use Rattle.std.proofs.Common.{rules, pos, ◌-ℤ◌, w64}
use Rattle.std.specs.Prelude.{FitsSigned}
use Rattle.std.proofs.lemmas.Int.{ints, to_z-of_z}
use Rattle.reach.proofs.Returning.{gap_before}
use Rattle.reach.proofs.before_gap.ahead_gap.Goals as goal

pub returns-clause-before : goal.returns-clause-before
returns-clause-before g c =
    let rf = c.ranges.from in let rt = c.ranges.to in
    let r1 : FitsSigned w64 (c.args.from -ℤ pos 1) = search (rules, ints) in
    let last = simp to_z-of_z at c.ahead_holes-last.ensures.last in
    let middle = simp to_z-of_z at c.ahead_in-before.ensures.states in
    let lower = simp to_z-of_z at c.lower.ensures.states in
    gap_before (g.M.Machine.rules c.args.machine.now) c.args.ahead.now c.ahead_holes-last.result c.ahead_in-before.result c.lower.new.self c.args.from c.args.to c.requires.some last middle lower
