use Rattle.std.proofs.Common.{nat_lt, rules}
use Rattle.std.proofs.lemmas.Bool.{ltb-false, ltb-true}
use Rattle.std.proofs.lemmas.List.Sorted.{IsPartitionPoint-from_clause, IsPartitionedBy-ltb}
use Rattle.sig_base.specs.declared.values.Row.{Row}
use Rattle.demonstration.proofs.records.rows_before.Goals as goal

pub returns-clause-point : goal.returns-clause-point
returns-clause-point c =
    let point = IsPartitionPoint-from_clause (λ (x : Row). nat_lt x.at c.args.tenth) _ _ c.partition_point.ensures.partitioned
    (IsPartitionedBy-ltb (λ (x : Row). x.at) c.args.rows.now c.args.tenth c.requires) (λ x r q k. search rules) in
    ((λ k d lo hi. ltb-true _ _ (point.0 k d lo hi)), (λ k d lo hi. ltb-false _ _ (point.1 k d lo hi)))
