use Rattle.std.proofs.Common.{rules, arith, refl, length, ◌≡◌}
use Rattle.board.proofs.Starting.{same_latest}
use Rattle.board.proofs.aheads.same_aheads.Goals as goal

pub returns : goal.returns
returns c =
    let len : length c.args.a.now ≡ length c.args.b.now = search rules in
    let all : c.loop-i.i ≡ length c.args.a.now = omega arith in
    (λ _. same_latest c.args.a.now c.args.b.now len (λ k h. c.loop-i.invariant k (omega arith)), λ _. refl)
