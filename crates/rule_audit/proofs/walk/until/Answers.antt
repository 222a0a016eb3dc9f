use Rattle.std.proofs.Common.{arith}
use Rattle.rule_audit.proofs.walk.until.Goals as goal

pub returns : goal.returns
returns c = (omega arith, (λ k lt. c.loop-i.invariant k (omega arith)), λ k le lt. absurd (omega arith))
