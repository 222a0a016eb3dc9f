-- How the lines of shifts follow from one another, and which shift is the best.
use Rattle.std.proofs.Common.{◌≡◌, ◌<◌, ◌≤◌, ◌+◌, ◌++◌, ◌∷◌, ◌⊎◌, [], ℕ, List, false, eqb, zero, suc, max, length, drop, get_or, refl, codes, decimal, arith, add-one, inl, inr}
use Rattle.std.specs.Prelude.{fold}
use Rattle.std.proofs.Math.Seq.{drop-cons}
use Rattle.std.proofs.lemmas.List.{drop_all}
use Rattle.std.proofs.lemmas.List.Sums.{position_or_len_is}
use Rattle.std.proofs.lemmas.Option.{slice_get_within, get_or_from_slice_get}
use Rattle.std.proofs.lemmas.Bool.{eq-eqb, ne_eqb}
use Rattle.offset_search.specs.Best.{IsBest}
use Rattle.report_text.specs.Line.{line_of}
use Rattle.report_text.specs.Shifts.{best_line, best_shift, greatest, shift_line, shift_lines}

-- the line of this shift, and those of the shifts after it
pub shifts_next : (counts : List ℕ) (i d : ℕ) → i < length counts
    → shift_lines i (drop i counts) ≡ shift_line i (get_or counts i d) ++ shift_lines (i + 1) (drop (i + 1) counts)
unfolding shift_lines
shifts_next counts i d h =
    let here : drop i counts ≡ get_or counts i d ∷ drop (i + 1) counts = rw add-one (drop-cons counts i d h) in
    rw here refl

pub shifts_end : (counts : List ℕ) (i : ℕ) → length counts ≤ i → shift_lines i (drop i counts) ≡ []
unfolding shift_lines
shifts_end counts i h = rw (drop_all i counts h) refl

max_low : (m x c : ℕ) → m ≤ c → x ≤ c → max m x ≤ c
max_low m x c h k = omega arith

max_left : (m x c : ℕ) → m ≡ c → x ≤ c → max m x ≡ c
max_left m x c h k = omega arith

max_right : (m x c : ℕ) → m ≤ c → x ≡ c → max m x ≡ c
max_right m x c h k = omega arith

-- a number that none exceeds, when all stand at least once with it, is their greatest
greatest_from : (m c : ℕ) (xs : List ℕ) → m ≤ c → ((k : ℕ) → k < length xs → get_or xs k 0 ≤ c) → (m ≡ c) ⊎ ((j : ℕ) × (j < length xs) × (get_or xs j 0 ≡ c)) → fold max m xs ≡ c
greatest_from m c [] low all (inl e) = e
greatest_from m c [] low all (inr (j, h, e)) = absurd (omega (arith, h))
greatest_from m c (x ∷ xs) low all (inl e) =
    greatest_from (max m x) c xs (max_low m x c low (all 0 (omega arith))) (λ k h. all (suc k) (omega (arith, h))) (inl (max_left m x c e (all 0 (omega arith))))
greatest_from m c (x ∷ xs) low all (inr (zero, h, e)) =
    greatest_from (max m x) c xs (max_low m x c low (all 0 (omega arith))) (λ k h. all (suc k) (omega (arith, h))) (inl (max_right m x c low e))
greatest_from m c (x ∷ xs) low all (inr (suc j, h, e)) =
    greatest_from (max m x) c xs (max_low m x c low (all 0 (omega arith))) (λ k h. all (suc k) (omega (arith, h))) (inr (j, omega (arith, h), e))

-- the best count is the greatest
pub best_count : (counts : List ℕ) (shift count : ℕ) → IsBest counts shift count → greatest counts ≡ count
best_count counts shift count best =
    greatest_from 0 count counts (omega arith) best.most
    (inr (shift, slice_get_within counts shift count best.at, get_or_from_slice_get counts shift count 0 best.at))

less_ne : (n c : ℕ) → n < c → eqb n c ≡ false
less_ne n c h = ne_eqb n c (λ e. absurd (omega (arith, h, e)))

-- and its shift the least with that count
pub best_place : (counts : List ℕ) (shift count : ℕ) → IsBest counts shift count → best_shift counts ≡ shift
best_place counts shift count best =
    let within : shift < length counts = slice_get_within counts shift count best.at in
    rw (best_count counts shift count best)
    (position_or_len_is (λ c. eqb c count) counts shift 0 (omega (arith, within)) (λ k h. less_ne (get_or counts k 0) count (best.least k h)) (λ h. eq-eqb (get_or counts shift 0) count (get_or_from_slice_get counts shift count 0 best.at)))

pub best_line_is : (counts : List ℕ) (shift count arrivals : ℕ) → IsBest counts shift count
    → best_line counts arrivals ≡ line_of (codes "best " ∷ decimal shift ∷ codes " count " ∷ decimal count ∷ codes " of " ∷ decimal arrivals ∷ [])
best_line_is [] shift count arrivals best = absurd (let h = slice_get_within [] shift count best.at in omega (arith, h))
best_line_is (c ∷ cs) shift count arrivals best = rw (best_place (c ∷ cs) shift count best, best_count (c ∷ cs) shift count best) refl
