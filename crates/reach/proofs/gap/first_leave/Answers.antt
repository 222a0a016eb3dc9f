use Rattle.std.proofs.Common.{arith}
use Rattle.std.proofs.lemmas.Int.{ints, clamps}
use Rattle.reach.proofs.gap.first_leave.Goals as goal

pub returns : goal.returns
returns c =
    let v = c.min.ensures.value in let u = c.max.ensures.value in let k = c.from.ensures in (
      λ e y m fy o yt. let l = c.in-Some.ensures.1 e m in omega (arith, ints, clamps),
      omega (arith, ints, clamps),
      omega (arith, ints, clamps),
      λ lt. (c.in-Some.least, c.in-Some.ensures.0, omega (arith, ints, clamps)),
    )
