-- From the steps of counts to the list of them, and how long it is.
use Rattle.std.proofs.Common.{◌≡◌, ℕ, ◌+◌, ◌*◌, ◌↔◌, ◌/◌, ◌%◌, ◌^◌, ◌<◌, ◌≤◌, List, [], ◌∷◌, length, take, get_or, sum, max, sym, ◌∙◌, arith}
use Rattle.std.specs.Prelude.{map, fold, All, EachIndex}
use Rattle.std.specs.List.{range_with_len}
use Rattle.std.proofs.lemmas.List.{ext_get_or}
use Rattle.std.proofs.lemmas.List.Elements.{All-head, All-tail}
use Rattle.std.proofs.lemmas.List.FromFn.{length-map-range_with_len, get_or-map-range_with_len}
use Rattle.std.proofs.lemmas.List.Sums.{count_by-le-length}
use Rattle.offset_search.specs.declared.arrival.Arrival.{Arrival}
use Rattle.offset_search.specs.Shifted.{IsInCycle, meets_green, count_after, longest, counts_of}
use Rattle.offset_search.specs.Steps.{AreSteps}

longest_from : (m : ℕ) (arrivals : List Arrival) → m ≤ 3000 → All IsInCycle arrivals → fold (λ n a. max n a.length) m arrivals ≤ 3000
longest_from m [] le all = le
longest_from m (a ∷ arrivals) le all =
    let head = All-head IsInCycle a arrivals all in
    longest_from (max m a.length) arrivals (omega (arith, head.few)) (All-tail IsInCycle a arrivals all)

pub longest_few : (arrivals : List Arrival) → All IsInCycle arrivals → longest arrivals ≤ 3000
longest_few arrivals all = longest_from 0 arrivals (omega arith) all

-- sums of the steps, where each count fits 64 bits
pub counts_are : (arrivals : List Arrival) (steps counts : List ℕ) (n : ℕ) → length arrivals < 2 ^ 64 → AreSteps (count_after arrivals) steps → length steps ≡ n → length counts ≡ n
    → EachIndex counts (λ k. get_or counts k 0 ≡ sum (take (k + 1) steps) % 2 ^ 64) → counts ≡ map (count_after arrivals) (range_with_len 0 n)
counts_are arrivals steps counts n fits are size same sums =
    let f = count_after arrivals in
    ext_get_or 0 counts (map f (range_with_len 0 n)) (same ∙ sym (length-map-range_with_len f 0 n))
    (λ j lt.
    let low : count_after arrivals j ≤ length arrivals = count_by-le-length (λ a. meets_green a j) arrivals in
    let small : count_after arrivals j % 2 ^ 64 ≡ count_after arrivals j = omega arith in
    let within : j < n = omega arith in
    sums j lt ∙ (are.add_up j (omega arith) ∙ (small ∙ sym (get_or-map-range_with_len f 0 n j j 0 within (omega arith)))))

-- the list has a count for each shift of whole seconds within the longest cycle
pub within_longest : (arrivals : List Arrival) → All IsInCycle arrivals → (length (counts_of arrivals) ≤ 300) × ((j : ℕ) → (j < length (counts_of arrivals)) ↔ (10 * j < longest arrivals))
unfolding counts_of
within_longest arrivals all =
    let few = longest_few arrivals all in
    let size : length (counts_of arrivals) ≡ (longest arrivals + 9) / 10 = length-map-range_with_len (count_after arrivals) 0 ((longest arrivals + 9) / 10) in
    (omega arith, λ j. (λ lt. omega arith, λ lt. omega arith))
