use Rattle.std.proofs.Common.{◌≡◌, true, false, leb, rules}
use Rattle.std.specs.List.Sorted.{IsPartitionPoint}
use Rattle.std.proofs.lemmas.List.Sorted.{IsPartitionPoint-from_clause, IsPartitionedBy-leb}
use Rattle.gap_map.specs.declared.stretch.Stretch.{Stretch}
use Rattle.arrival_measures.proofs.Knowing.{ends_rise, told_first}
use Rattle.arrival_measures.proofs.judged.place_of.Goals as goal

pub returns : goal.returns
returns c = λ known a b are lo.
    let ss = c.args.stretches.now in
    let t = c.args.at in
    let i = c.partition_point.result in
    let cut : IsPartitionPoint (λ (s : Stretch). leb s.to t ≡ true) (λ s. leb s.to t ≡ false) ss i = IsPartitionPoint-from_clause (λ (s : Stretch). leb s.to t) ss i c.partition_point.ensures.partitioned (IsPartitionedBy-leb (λ (s : Stretch). s.to) ss t (ends_rise known a b ss are)) (λ x r q k. search rules) in
    told_first known a b t ss i are lo c.partition_point.ensures.bound cut
