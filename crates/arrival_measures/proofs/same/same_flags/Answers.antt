use Rattle.std.proofs.Common.{◌≡◌, ◌+◌, ◌-◌, length, arith}
use Rattle.arrival_measures.proofs.Padding.{places_told, same_told}
use Rattle.arrival_measures.proofs.same.same_flags.Goals as goal

pub returns-then-max : goal.returns-then-max
returns-then-max c =
    let a = c.args.a.now in
    let b = c.args.b.now in
    let size : length a + (129 - length a) ≡ length b + (129 - length b) = (let m = c.max.ensures in let n = c.max-2.ensures in let e = c.if-max.true in omega arith) in
    (λ yes. same_told a b size (c.same_places.ensures.0 yes), λ e. c.same_places.ensures.1 (places_told a b e))
