use Rattle.std.proofs.Common.{arith, ◌≡◌, Some}
use Rattle.std.proofs.lemmas.Int.{ints, to_z-of_z}
use Rattle.colour_machine.specs.Rules.{Goes}
use Rattle.reach.proofs.Later.{row_same, row_other}
use Rattle.reach.proofs.before_row.row_one.Goals as goal

pub returns-in-Some : goal.returns-in-Some
returns-in-Some g c =
    let m = g.M.Machine.rules c.args.machine.now in
    let r = c.ranges.at in
    let low = simp to_z-of_z at c.lowered.ensures in
    let k : m.next c.args.colour c.args.letter ≡ Some c.args.colour = cc in
    let n : Goes m c.args.colour c.args.letter c.args.colour = (c.requires.colour, c.requires.letter, k) in
    λ e. let a = low e in let b = row_same m c.args.latest.now c.args.at c.args.letter c.args.colour e n in (λ h. let x = a.0 h in (x.1, b.0 x.0), λ (le, x). a.1 (b.1 x, le))

pub returns-in-Some-2 : goal.returns-in-Some-2
returns-in-Some-2 g c =
    let m = g.M.Machine.rules c.args.machine.now in
    let r = c.ranges.at in
    let left = rw c.floor.ensures at (simp to_z-of_z at c.left.ensures) in
    let k : m.next c.args.colour c.args.letter ≡ Some c.in-Some.next = cc in
    let n : Goes m c.args.colour c.args.letter c.in-Some.next = (c.requires.colour, c.requires.letter, k) in
    λ e. let a = left e in let b = row_other m c.args.latest.now c.args.at c.args.letter c.args.colour c.in-Some.next e n c.if-next-colour.false in (λ h. let x = a.0 h in (let y = x.1 in omega (arith, ints), b.0 x), λ (le, x). a.1 (b.1 x))
