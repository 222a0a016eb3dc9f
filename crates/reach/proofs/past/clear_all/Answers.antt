use Rattle.std.proofs.Common.{arith, length}
use Rattle.reach.proofs.Alone.{all_empty}
use Rattle.reach.proofs.past.clear_all.Goals as goal

pub returns : goal.returns
returns c =
    let over = c.loop-set-test.false in
    all_empty c.loop-set.sets (length c.args.sets.now) c.loop-set.invariant.0 (λ k lt. c.loop-set.invariant.1 k (omega arith))
