-- Sums of numbers.
use Rattle.std.proofs.Common.{◌≡◌, ◌∙◌, ℕ, zero, suc, ◌+◌, ◌≤◌, List, [], ◌∷◌, ◌++◌, get_or, length, length-append, map, refl, sym, ap, arith}
use Rattle.std.specs.List.{All, fold}
use Rattle.std.proofs.lemmas.List.Sums.{fold_push, sum_by_push}
use Rattle.std.proofs.lemmas.List.{map-append}
use Rattle.hour_sweep.specs.Sums.{merged}
use Rattle.split_measures.specs.Phases.{added}
use Rattle.split_measures.specs.Failures.{both_sums}
use Rattle.other_measures.specs.Hours.{no_numbers, others_added}
use Rattle.arrival_measures.specs.Hours.{added as arrivals_added}
use Rattle.hour_work.specs.declared.counts.RuleCount.{RuleCount}
use Rattle.hour_work.specs.Numbers.{FitHours, FitsCount, IsTotal, Numbers, count_sum, numbers_sum, total_of}

-- of all elements, one more at the end
mapped_push : {A : Type 0} (put : A → A → A) (none : A) (of : Numbers → A) (xs : List Numbers) (y : Numbers) → fold put none (map of (xs ++ y ∷ [])) ≡ put (fold put none (map of xs)) (of y)
mapped_push put none of xs y = ap (λ zs. fold put none zs) (map-append of xs (y ∷ [])) ∙ fold_push put none (map of xs) (of y)

-- the sums of counts fit as many hours as both together
one_fits : (m n : ℕ) (a b : RuleCount) → FitsCount m a → FitsCount n b → FitsCount (m + n) (count_sum a b)
one_fits m n a b p q = let k1 = p.kept in let k2 = q.kept in let b1 = p.broken in let b2 = q.broken in let u1 = p.undecided in let u2 = q.undecided in record {
  kept = omega arith;
  broken = omega arith;
  undecided = omega arith;
}

one_more : (m n : ℕ) (a : RuleCount) → m ≤ n → FitsCount m a → FitsCount n a
one_more m n a le p = let k = p.kept in let b = p.broken in let u = p.undecided in record { kept = omega arith; broken = omega arith; undecided = omega arith }

pub sum_fits : (m n : ℕ) (xs ys : List RuleCount) → All (FitsCount m) xs → All (FitsCount n) ys → All (FitsCount (m + n)) (merged count_sum xs ys)
sum_fits m n [] ys p q k d lt = one_more n (m + n) (get_or ys k d) (omega arith) (q k d lt)
sum_fits m n (x ∷ xs) [] p q k d lt = one_more m (m + n) (get_or (x ∷ xs) k d) (omega arith) (p k d lt)
sum_fits m n (x ∷ xs) (y ∷ ys) p q zero d lt = one_fits m n x y (p 0 d (omega arith)) (q 0 d (omega arith))
sum_fits m n (x ∷ xs) (y ∷ ys) p q (suc k) d lt = sum_fits m n xs ys (λ j e l. p (suc j) e (omega arith)) (λ j e l. q (suc j) e (omega arith)) k d (omega arith)

pub total_push : (xs : List Numbers) (y : Numbers) → total_of (xs ++ y ∷ []) ≡ numbers_sum (total_of xs) y
total_push xs y =
    let h = sum_by_push (λ (n : Numbers). n.held_hours) xs y in
    let r = sum_by_push (λ (n : Numbers). n.held_rows) xs y in
    let k = sum_by_push (λ (n : Numbers). n.known_tenths) xs y in
    let c = mapped_push (merged count_sum) [] (λ (n : Numbers). n.rules) xs y in
    let p = mapped_push (merged added) [] (λ (n : Numbers). n.splits) xs y in
    let f = mapped_push (merged both_sums) [] (λ (n : Numbers). n.failures) xs y in
    let o = mapped_push others_added no_numbers (λ (n : Numbers). n.others) xs y in
    let a = mapped_push (merged arrivals_added) [] (λ (n : Numbers). n.arrivals) xs y in
    rw (h, r, k, c, p, f, o, a) refl

pub numbers_fit : (m n : ℕ) (a b : Numbers) → FitHours m a → FitHours n b → FitHours (m + n) (numbers_sum a b)
numbers_fit m n a b p q = let h1 = p.held_hours in let h2 = q.held_hours in let r1 = p.held_rows in let r2 = q.held_rows in let k1 = p.known_tenths in let k2 = q.known_tenths in record {
  held_hours = omega arith;
  held_rows = omega arith;
  known_tenths = omega arith;
  rules = sum_fits m n a.rules b.rules p.rules q.rules;
}

-- the sums with one hour more
pub total_more : (hours : List Numbers) (total part : Numbers) → IsTotal hours total → FitHours 1 part → IsTotal (hours ++ part ∷ []) (numbers_sum total part)
total_more hours total part is one = record {
  sums = ap (λ (n : Numbers). numbers_sum n part) is.sums ∙ sym (total_push hours part);
  fits = rw length-append (numbers_fit (length hours) 1 total part is.fits one);
}
