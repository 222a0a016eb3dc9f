use Rattle.std.proofs.Common.{◌∙◌, List, ltb, leb, subst, sym, rules, arith}
use Rattle.std.proofs.lemmas.List.Sorted.{IsPartitionPoint-from_clause, IsPartitionedBy-ltb}
use Rattle.sig_base.specs.declared.values.Row.{Row}
use Rattle.hour_sweep.specs.Hours.{AreOrdered}
use Rattle.arrival_measures.proofs.Filters.{cut_at}
use Rattle.arrival_measures.proofs.Between.{never_falls, between_is}
use Rattle.arrival_measures.proofs.Travels.{kept_ordered}
use Rattle.arrival_measures.proofs.under_way.rows_between.Goals as goal

pub returns : goal.returns
returns c = λ a b or.
    let rows = c.args.rows.now in
    let later = c.rows_from-later.result.now in
    let is = c.rows_from-later.ensures a b or in
    let or' = subst (λ (zs : List Row). AreOrdered a b zs) (sym is) (kept_ordered (λ x. leb c.args.from x.at) a b a rows (omega arith) or) in
    let last = cut_at (λ (x : Row). ltb x.at c.args.to) later c.partition_point.result c.partition_point.ensures.bound (IsPartitionPoint-from_clause (λ (x : Row). ltb x.at c.args.to) later c.partition_point.result c.partition_point.ensures.partitioned (IsPartitionedBy-ltb (λ (x : Row). x.at) later c.args.to (never_falls a b later or')) (λ x r q k. search rules)) in
    between_is c.args.from c.args.to rows later c.split_at.result.0.now is (c.split_at.ensures.front ∙ last.0)
