-- Steps of counts that rise from one place on, and from one place up to another.
use Rattle.std.proofs.Common.{◌≡◌, ℕ, ◌+◌, ◌%◌, ◌^◌, ◌<◌, ◌≤◌, ◌&&◌, List, length, take, get_or, set, sum, ◌∙◌, arith, inl, inr, add-zero}
use Rattle.std.specs.Prelude.{nat_le, nat_lt, if◌then◌else◌}
use Rattle.std.proofs.Math.Seq.{take-set-lt}
use Rattle.std.proofs.lemmas.List.{take-set-le, get_or-take, length-set, length-take}
use Rattle.std.proofs.lemmas.List.Sums.{sum_by-set}
use Rattle.std.proofs.lemmas.Bool.Decides.{leb_tells, nat_tests}
use Rattle.offset_search.specs.Steps.{AreSteps, one_if}

-- what a write puts in place of an element comes into each sum past its place
sum_from : (xs : List ℕ) (k v j : ℕ) → k ≤ j → j < length xs → sum (take (j + 1) (set xs k v)) + get_or xs k 0 ≡ sum (take (j + 1) xs) + v
sum_from xs k v j le lt =
    let within : k < j + 1 = omega arith in
    let there : k < length (take (j + 1) xs) = simp (length-take) (omega arith) in
    let moved : take (j + 1) (set xs k v) ≡ set (take (j + 1) xs) k v = take-set-lt (j + 1) xs k v within in
    let read : get_or (take (j + 1) xs) k 0 ≡ get_or xs k 0 = get_or-take (j + 1) xs k 0 within in
    rw (moved, ← read) (sum_by-set (λ (x : ℕ). x) (take (j + 1) xs) k v 0 there)

wrapped : (new x old by f : ℕ) → new + x ≡ old + (x + by) % 2 ^ 64 → old % 2 ^ 64 ≡ f % 2 ^ 64 → new % 2 ^ 64 ≡ (f + by) % 2 ^ 64
wrapped new x old by f e is = omega arith

-- one step more makes each count from its place on more
pub stepped : (f : ℕ → ℕ) (xs : List ℕ) (k by : ℕ) → k < length xs → AreSteps f xs → AreSteps (λ j. f j + (if nat_le k j then by else 0)) (set xs k ((get_or xs k 0 + by) % 2 ^ 64))
stepped f xs k by in' steps = record {
  add_up = λ j lt.
      let v = (get_or xs k 0 + by) % 2 ^ 64 in
      let within : j < length xs = rw (← length-set xs k v) lt in
      elim (leb_tells k j) [
        | inl past ↦ rw past.0 (wrapped (sum (take (j + 1) (set xs k v))) (get_or xs k 0) (sum (take (j + 1) xs)) by (f j) (sum_from xs k v j past.1 within) (steps.add_up j within))
        | inr before ↦ rw (before.0, take-set-le (j + 1) xs k v (omega arith), add-zero) (steps.add_up j within)
      ];
}

-- steps tell counts up to multiples of 2 ^ 64
pub AreSteps-like : (f g : ℕ → ℕ) (xs : List ℕ) → AreSteps f xs → ((j : ℕ) → j < length xs → f j % 2 ^ 64 ≡ g j % 2 ^ 64) → AreSteps g xs
AreSteps-like f g xs steps same = record { add_up = λ j lt. steps.add_up j lt ∙ same j lt }

-- a step up and one down: each count between is one more
pub up_and_down : (n from to j : ℕ) → from ≤ to → ((n + (if nat_le from j then 1 else 0)) + (if nat_le to j then 18446744073709551615 else 0)) % 2 ^ 64 ≡ (n + one_if (nat_le from j && nat_lt j to)) % 2 ^ 64
up_and_down n from to j le = grind (arith, nat_tests)

-- a step up, and none down in reach
pub up_alone : (n from to j : ℕ) → j < to → (n + (if nat_le from j then 1 else 0)) % 2 ^ 64 ≡ (n + one_if (nat_le from j && nat_lt j to)) % 2 ^ 64
up_alone n from to j lt = grind (arith, nat_tests)
