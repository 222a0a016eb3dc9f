use Rattle.std.proofs.Common.{◌≡◌, ◌≤◌, ◌<◌, ◌*◌, ◌+◌, ◌/◌, ℕ, List, length, ap, sym, ◌∙◌, subst, arith}
use Rattle.std.specs.Prelude.{◌↔◌, map}
use Rattle.std.specs.List.{range_with_len}
use Rattle.std.proofs.lemmas.List.FromFn.{length-map-range_with_len}
use Rattle.offset_search.specs.Shifted.{longest, count_after, counts_of}
use Rattle.offset_search.proofs.Counts.{within_longest}
use Rattle.offset_search.proofs.search.shift_counts.Goals as goal

pub new-requires : goal.new-requires
new-requires c =
    let size = ap length c.in_ok-counts.ensures ∙ length-map-range_with_len (count_after c.args.arrivals.now) 0 c.div_ceil-shifts.result in
    let small : c.div_ceil-shifts.result ≤ 300 = omega arith in
    omega (arith, c.in_ok-counts.counts.ok)

pub returns-clause-counts : goal.returns-clause-counts
unfolding counts_of
returns-clause-counts c =
    let shifts : c.div_ceil-shifts.result ≡ (longest c.args.arrivals.now + 9) / 10 = omega arith in
    c.new.ensures ∙ (c.in_ok-counts.ensures ∙ ap (λ n. map (count_after c.args.arrivals.now) (range_with_len 0 n)) shifts)

pub returns-clause-reach : goal.returns-clause-reach
returns-clause-reach c =
    let Reaches : List ℕ → Type 0 = λ s. (length s ≤ 300) × ((j : ℕ) → (j < length s) ↔ (10 * j < longest c.args.arrivals.now)) in
    subst Reaches (sym (returns-clause-counts c)) (within_longest c.args.arrivals.now c.requires)
