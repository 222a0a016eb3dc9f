use Rattle.std.proofs.Common.{arith}
use Rattle.std.proofs.lemmas.Int.{ints, clamps}
use Rattle.lost_rows.proofs.still.last_in.Goals as goal

pub returns-in-Some : goal.returns-in-Some
returns-in-Some c =
    let v = c.min.ensures.value in
    let a = c.if-still-x.true in
    let b = c.if-still.true in
    let low = c.requires.low in
    let high = c.requires.high in
    rw c.in-Some.is (omega (arith, ints, clamps), omega (arith, ints, clamps), omega (arith, ints, clamps), λ t ge lt le. omega (arith, ints, clamps))
