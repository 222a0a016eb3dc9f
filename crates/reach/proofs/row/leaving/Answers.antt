use Rattle.std.proofs.Common.{arith, ◌≡◌}
use Rattle.std.proofs.lemmas.Int.{to_z-of_z}
use Rattle.reach.proofs.States.{leave_is}
use Rattle.reach.proofs.row.leaving.Goals as goal

pub returns : goal.returns
returns g c =
    let m = g.M.Machine.rules c.args.machine.now in
    let all : c.loop-colour.colour ≡ m.colours = omega (arith, c.colours-colour-end.ensures) in
    let r = c.ranges.at in
    let i = simp to_z-of_z at c.loop-colour.invariant in
    λ d. let a = i d in let b = leave_is m c.args.sets.now c.args.at c.loop-colour.colour d all c.requires.colours in (λ h. b.0 (a.0 h), λ h. a.1 (b.1 h))
