use Rattle.std.proofs.Common.{◌∙◌, not, ltb, leb, rules}
use Rattle.std.proofs.lemmas.List.Elements.{filter_agree}
use Rattle.std.proofs.lemmas.List.Sorted.{IsPartitionPoint-from_clause, IsPartitionedBy-ltb}
use Rattle.sig_base.specs.declared.values.Row.{Row}
use Rattle.arrival_measures.proofs.Filters.{cut_at}
use Rattle.arrival_measures.proofs.Between.{never_falls, not_before}
use Rattle.arrival_measures.proofs.under_way.rows_from.Goals as goal

pub returns : goal.returns
returns c = λ a b or.
    let rows = c.args.rows.now in
    let first = cut_at (λ (x : Row). ltb x.at c.args.from) rows c.partition_point.result c.partition_point.ensures.bound (IsPartitionPoint-from_clause (λ (x : Row). ltb x.at c.args.from) rows c.partition_point.result c.partition_point.ensures.partitioned (IsPartitionedBy-ltb (λ (x : Row). x.at) rows c.args.from (never_falls a b rows or)) (λ x r q k. search rules)) in
    c.split_at.ensures.back ∙ first.1
    ∙ filter_agree (λ (x : Row). not (ltb x.at c.args.from)) (λ x. leb c.args.from x.at) (λ x. not_before x.at c.args.from) rows
