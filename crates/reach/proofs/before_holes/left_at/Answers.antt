use lib.Signed.{lt_z}
use Rattle.std.proofs.Common.{arith, rules, true, false, ◌≡◌, ◌↔◌, ℕ, ℤ, pos, ◌+ℤ◌, ◌-ℤ◌, ◌<ℤ◌, ◌≤ℤ◌, Option, Some, None, to_z, of_z, w64}
use Rattle.std.specs.Prelude.{FitsSigned}
use Rattle.std.proofs.lemmas.Int.{ints, to_z-of_z}
use Rattle.reach.specs.Ahead.{NotLater}
use Rattle.reach.proofs.before_holes.left_at.Goals as goal

none_left : (floor : ℕ) (place : ℤ) (last : Option ℤ) → last ≡ None → (e : ℤ) → NotLater None e ↔ (NotLater last place × NotLater last (e +ℤ pos floor))
none_left floor place last q e = rw q (λ h. absurd h, λ (a, b). absurd a)

early_left : (floor : ℕ) (place x : ℤ) (last : Option ℤ) → last ≡ Some x → x <ℤ place → (e : ℤ) → NotLater None e ↔ (NotLater last place × NotLater last (e +ℤ pos floor))
early_left floor place x last q lt e = rw q (λ h. absurd h, λ (a, b). absurd (omega (arith, ints)))

late_left : (floor : ℕ) (place x r : ℤ) (last : Option ℤ) → last ≡ Some x → place ≤ℤ x → r ≡ (x -ℤ pos floor) → (e : ℤ) → NotLater (Some r) e ↔ (NotLater last place × NotLater last (e +ℤ pos floor))
late_left floor place x r last q le same e = rw q (λ h. (le, omega (arith, ints)), λ (a, b). omega (arith, ints))

less_of : (a b : ℤ) → lt_z a b ≡ true → a <ℤ b
less_of a b h = grind (arith, ints)

from_of : (a b : ℤ) → lt_z a b ≡ false → b ≤ℤ a
from_of a b h = grind (arith, ints)

pub returns-in-None : goal.returns-in-None
returns-in-None c = none_left c.args.floor c.args.place c.args.last c.in-None.is

pub returns-in-Some : goal.returns-in-Some
returns-in-Some c =
    let r = c.ranges.place in
    let f : FitsSigned w64 c.in-Some.x = search rules in
    let h = simp to_z-of_z at c.if-x-place.true in
    early_left c.args.floor c.args.place c.in-Some.x c.args.last c.in-Some.is (less_of c.in-Some.x c.args.place h)

pub returns-in-Some-2 : goal.returns-in-Some-2
returns-in-Some-2 c =
    let r = c.ranges.place in
    let x = c.in-Some-2.x in
    let f1 : FitsSigned w64 c.in-Some.x = search rules in
    let f : FitsSigned w64 c.in-Some-2.x = search rules in
    let e : c.in-Some.x ≡ c.in-Some-2.x = (let p = c.in-Some.is in let q = c.in-Some-2.is in cc) in
    let a = rw e at (from_of c.in-Some.x c.args.place (simp to_z-of_z at c.if-x-place.false)) in
    let low = rw c.in-Some-2.is at c.requires.low in
    let k = c.from.ensures in let few = c.requires.floor in
    late_left c.args.floor c.args.place x (to_z w64 (of_z w64 (to_z w64 (of_z w64 x) -ℤ to_z w64 (of_z w64 c.from.result)))) c.args.last c.in-Some-2.is a (omega (arith, ints))
