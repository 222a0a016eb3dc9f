use Rattle.std.proofs.Common.{arith}
use Rattle.std.proofs.lemmas.Int.{ints}
use Rattle.reach.proofs.Alone.{on_ok}
use Rattle.reach.proofs.keep.keep_ages.Goals as goal

pub returns-in-Any : goal.returns-in-Any
returns-in-Any c = λ e. rw c.in-Any.is (λ m. (m, tt), λ (m, b). m)

pub returns-in-AtLeast : goal.returns-in-AtLeast
returns-in-AtLeast c =
    let r = c.from.ensures in
    λ e. let a = c.remove_after.ensures e in rw c.in-AtLeast.is (λ m. let (x, y) = a.0 m in (x, omega (arith, ints)), λ (x, y). a.1 (x, omega (arith, ints)))

pub returns-in-AtMost : goal.returns-in-AtMost
returns-in-AtMost c =
    let r = c.from-in-AtMost.ensures in
    on_ok c.remove_before.result _ _ (λ a e. rw c.in-AtMost.is (λ m. let (x, y) = (a e).0 m in (x, omega (arith, ints)), λ (x, y). (a e).1 (x, omega (arith, ints)))) c.remove_before.ensures
