use Rattle.std.proofs.Common.{arith, rules, int_le}
use Rattle.std.proofs.lemmas.List.Sorted.{IsPartitionPoint-from_clause}
use Rattle.sig_base.proofs.Common.{le_said}
use Rattle.span_set.specs.declared.set.Span.{Span}
use Rattle.reach.proofs.Crossing.{hole_rises, not_ended}
use Rattle.reach.proofs.holes.ended_by.Goals as goal

pub returns-clause-ended : goal.returns-clause-ended
returns-clause-ended c =
    let point = IsPartitionPoint-from_clause (λ (s : Span). int_le s.to c.args.tenth) _ _ c.partition_point.ensures.partitioned (hole_rises c.args.holes.now c.args.tenth c.requires) (λ a r q k. search rules) in
    λ k d h. le_said _ _ (point.0 k d (omega arith) h)

pub returns-clause-next : goal.returns-clause-next
returns-clause-next c =
    let point = IsPartitionPoint-from_clause (λ (s : Span). int_le s.to c.args.tenth) _ _ c.partition_point.ensures.partitioned (hole_rises c.args.holes.now c.args.tenth c.requires) (λ a r q k. search rules) in
    λ k d h lt. not_ended _ _ (point.1 k d h lt)
