use Rattle.std.proofs.Common.{ltb, rules}
use Rattle.std.proofs.lemmas.List.Sorted.{IsPartitionPoint-from_clause, IsPartitionedBy-ltb}
use Rattle.sig_base.specs.declared.values.Row.{Row}
use Rattle.board.proofs.Ending.{count_point, rows_rise}
use Rattle.board.proofs.courses.rows_before.Goals as goal

pub returns-clause-count : goal.returns-clause-count
returns-clause-count c f t rows_in =
    let p = λ (r : Row). ltb r.at c.args.tenth in
    let rows = c.args.rows.now in
    let i = c.partition_point.result in
    let at = IsPartitionPoint-from_clause p rows i c.partition_point.ensures.partitioned (IsPartitionedBy-ltb (λ (r : Row). r.at) rows c.args.tenth (rows_rise f t rows rows_in)) (λ a r q k. search rules) in
    count_point c.args.tenth rows i c.partition_point.ensures.bound at
