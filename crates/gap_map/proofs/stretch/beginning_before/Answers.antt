use Rattle.std.proofs.Common.{rules, pos, int_lt}
use Rattle.std.proofs.lemmas.List.Sorted.{IsPartitionPoint-from_clause}
use Rattle.gap_map.proofs.Reaching.{lt_not, parted_from, skip_back}
use Rattle.gap_map.proofs.stretch.beginning_before.Goals as goal

pub returns : goal.returns
returns c =
    let point = IsPartitionPoint-from_clause (λ s. int_lt s.from (pos c.args.to)) _ _ c.partition_point-end.ensures.partitioned (parted_from (pos c.args.to) c.requires.0 c.args.ranges.now c.requires.1) (λ a r q k. search rules) in
    λ from le. skip_back c.partition_point-end.result from c.args.to c.args.ranges.now le (λ k d g lt. lt_not _ _ (point.1 k d g lt))
