use Rattle.std.proofs.Common.{arith, rules, int_le}
use Rattle.std.proofs.lemmas.List.Sorted.{IsPartitionPoint-from_clause}
use Rattle.sig_base.proofs.Common.{le_said}
use Rattle.span_set.specs.declared.set.Span.{Span}
use Rattle.reach.proofs.Crossing.{not_ended}
use Rattle.reach.proofs.Returning.{begin_rises}
use Rattle.reach.proofs.before_holes.begun_by.Goals as goal

pub returns-clause-begun : goal.returns-clause-begun
returns-clause-begun c =
    let point = IsPartitionPoint-from_clause (λ (s : Span). int_le s.from c.args.tenth) _ _ c.partition_point.ensures.partitioned (begin_rises c.args.holes.now c.args.tenth c.requires) (λ a r q k. search rules) in
    λ k d h. le_said _ _ (point.0 k d (omega arith) h)

pub returns-clause-next : goal.returns-clause-next
returns-clause-next c =
    let point = IsPartitionPoint-from_clause (λ (s : Span). int_le s.from c.args.tenth) _ _ c.partition_point.ensures.partitioned (begin_rises c.args.holes.now c.args.tenth c.requires) (λ a r q k. search rules) in
    λ k d h lt. not_ended _ _ (point.1 k d h lt)
