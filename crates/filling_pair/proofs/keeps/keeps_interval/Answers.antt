use Rattle.std.proofs.Common.{subst, ℕ}
use Rattle.rule_audit.specs.Judged.{Leaves}
use Rattle.filling_pair.proofs.keeps.keeps_interval.Goals as goal

pub returns-then-leaves : goal.returns-then-leaves
returns-then-leaves c =
    let same = c.if-here-item.false in
    let left = c.leaves.ensures.0 c.if-leaves.true in (
      λ b closes. c.in_bound.ensures.0 b,
      λ keeps. c.in_bound.ensures.1 (keeps (same, subst (λ (n : ℕ). Leaves c.args.spec.now c.args.row n) same left)),
    )
