use Rattle.std.proofs.Common.{◌≡◌, ◌∙◌, ◌<◌, ◌≤◌, leb, rules, length, ℕ, false, get_or}
use Rattle.std.proofs.lemmas.Bool.{le-ltb}
use Rattle.std.proofs.lemmas.List.Sorted.{IsPartitionPoint-from_clause, IsPartitionedBy-leb}
use Rattle.gap_map.specs.declared.stretch.Stretch.{Stretch}
use Rattle.gap_map.specs.Stretches.{FollowOn, known_at}
use Rattle.decisive.proofs.Since.{ends_rise, known_point, no_stretch}
use Rattle.decisive.proofs.rows.is_known.Goals as goal
use Rattle.decisive.proofs.rows.is_known.Goals.{After-partition_point-place}

abbrev Known : ℕ → After-partition_point-place → Type 0
Known y c = (c.partition_point-place.result < length c.args.stretches.now → (get_or c.args.stretches.now c.partition_point-place.result no_stretch).known ≡ known_at c.args.stretches.now y) × (length c.args.stretches.now ≤ c.partition_point-place.result → false ≡ known_at c.args.stretches.now y)

cut : (c : After-partition_point-place) (f t : ℕ) → FollowOn f t c.args.stretches.now → f ≤ c.args.tenth → Known c.args.tenth c
cut c f t follow low =
    let ss = c.args.stretches.now in
    let y = c.args.tenth in
    let i = c.partition_point-place.result in
    known_point f t y i ss follow low c.partition_point-place.ensures.bound (IsPartitionPoint-from_clause (λ (s : Stretch). leb s.to y) ss i c.partition_point-place.ensures.partitioned (IsPartitionedBy-leb (λ (s : Stretch). s.to) ss y (ends_rise f t ss follow)) (λ x r q k. search rules))

pub returns-then-place-stretches : goal.returns-then-place-stretches
returns-then-place-stretches c =
    let was = (goal.at.returns-then-place-stretches c).After-partition_point-place in
    λ f t follow low. (cut was f t follow low).0 c.if-place-stretches.true

pub returns-else-place-stretches : goal.returns-else-place-stretches
returns-else-place-stretches c =
    let was = (goal.at.returns-else-place-stretches c).After-partition_point-place in
    λ f t follow low. le-ltb c.partition_point-place.result (length c.args.stretches.now) c.if-place-stretches.false ∙ (cut was f t follow low).1 c.if-place-stretches.false
