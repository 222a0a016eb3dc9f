use Rattle.std.proofs.Common.{rules, arith, pos, int_le, negsuc, ◌^◌}
use Rattle.std.proofs.lemmas.List.Sorted.{IsPartitionPoint-from_clause}
use Rattle.sig_base.proofs.Common.{le_said}
use Rattle.gap_map.proofs.Reaching.{drop_above, parted_to, skip_front}
use Rattle.gap_map.proofs.stretch.ending_after.Goals as goal

pub returns-clause-cut : goal.returns-clause-cut
returns-clause-cut c =
    let point = IsPartitionPoint-from_clause (λ s. int_le s.to (pos c.args.from)) _ _ c.partition_point-first.ensures.partitioned (parted_to (pos c.args.from) (negsuc (2 ^ 40)) c.args.ranges.now c.requires) (λ a r q k. search rules) in
    rw c.split_at.ensures.back (λ to le. skip_front c.partition_point-first.result c.args.from to c.args.ranges.now le (λ k d lt. le_said _ _ (point.0 k d (omega arith) lt)))

pub returns-clause-ordered : goal.returns-clause-ordered
returns-clause-ordered c = rw c.split_at.ensures.back (drop_above c.partition_point-first.result (negsuc (2 ^ 40)) c.args.ranges.now c.requires)
