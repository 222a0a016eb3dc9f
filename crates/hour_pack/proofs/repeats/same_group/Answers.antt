use Rattle.std.proofs.Common.{sym, inl, inr}
use Rattle.hour_pack.proofs.GroupFacts.{group-apart}
use Rattle.hour_pack.proofs.repeats.same_group.Goals as goal

pub returns-then-b-ne-COORDINATION : goal.returns-then-b-ne-COORDINATION
returns-then-b-ne-COORDINATION c =
    sym (group-apart c.args.a c.args.b c.if-a-b.true (λ a b. elim c.if-b-ne-COORDINATION.either [ inl n ↦ n a | inr n ↦ n.1 b ]))
