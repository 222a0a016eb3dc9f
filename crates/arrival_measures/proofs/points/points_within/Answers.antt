use Rattle.std.proofs.Common.{◌∙◌, List, ltb, sym, subst, rules}
use Rattle.std.specs.List.Sorted.{IsNonDecreasingBy}
use Rattle.std.proofs.lemmas.List.Sorted.{IsPartitionPoint-from_clause, IsPartitionedBy-ltb}
use Rattle.arrival_measures.specs.declared.points.Point.{Point}
use Rattle.arrival_measures.proofs.Filters.{cut_at}
use Rattle.arrival_measures.proofs.Sorting.{drop_rise, points_between, within_is}
use Rattle.arrival_measures.proofs.points.points_within.Goals as goal

pub returns : goal.returns
returns c = λ all is.
    let points = c.args.points.now in
    let later = c.split_at.result.1.now in
    let h = subst (λ (zs : List Point). IsNonDecreasingBy (λ (x : Point). x.offset) zs) (sym c.split_at.ensures.back) (drop_rise points c.partition_point.result is.rise) in
    let first = cut_at (λ (x : Point). ltb x.offset c.args.from) points c.partition_point.result c.partition_point.ensures.bound (IsPartitionPoint-from_clause (λ (x : Point). ltb x.offset c.args.from) points c.partition_point.result c.partition_point.ensures.partitioned (IsPartitionedBy-ltb (λ (x : Point). x.offset) points c.args.from is.rise) (λ x r q k. search rules)) in
    let last = cut_at (λ (x : Point). ltb x.offset c.args.to) later c.partition_point-2.result c.partition_point-2.ensures.bound (IsPartitionPoint-from_clause (λ (x : Point). ltb x.offset c.args.to) later c.partition_point-2.result c.partition_point-2.ensures.partitioned (IsPartitionedBy-ltb (λ (x : Point). x.offset) later c.args.to h) (λ x r q k. search rules)) in
    points_between c.args.from c.args.to c.partition_point.result c.partition_point-2.result points later c.split_at-2.result.0.now c.split_at.ensures.back first.1 c.split_at-2.ensures.front last.0
    ∙ within_is c.args.from c.args.to all points is
