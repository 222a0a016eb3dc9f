-- Lists put together item by item.
use Rattle.std.proofs.Common.{◌≡◌, ◌∙◌, ℕ, zero, suc, ◌<◌, ◌≤◌, List, [], ◌∷◌, ◌++◌, length, get_or, set, take, refl, sym, ap, arith}
use Rattle.hour_sweep.specs.Sums.{merged}

module _ {A : Type 0} (put : A → A → A) where
  pub sum_nil : (xs : List A) → merged put xs [] ≡ xs
  sum_nil [] = refl
  sum_nil (x ∷ xs) = refl

  pub merged_assoc : ((a b c : A) → put (put a b) c ≡ put a (put b c)) → (xs ys zs : List A) → merged put (merged put xs ys) zs ≡ merged put xs (merged put ys zs)
  merged_assoc assoc [] ys zs = refl
  merged_assoc assoc (x ∷ xs) [] zs = refl
  merged_assoc assoc (x ∷ xs) (y ∷ ys) [] = refl
  merged_assoc assoc (x ∷ xs) (y ∷ ys) (z ∷ zs) = ap (λ v. v ∷ merged put (merged put xs ys) zs) (assoc x y z) ∙ ap (λ rest. put x (put y z) ∷ rest) (merged_assoc assoc xs ys zs)

  -- item by item: so many items of the second list have been added
  pub step_within : (xs ys : List A) (i : ℕ) (d e : A) → i < length xs → i < length ys → set (merged put xs (take i ys)) i (put (get_or (merged put xs (take i ys)) i d) (get_or ys i e)) ≡ merged put xs (take (suc i) ys)
  step_within [] ys i d e a b = absurd (omega arith)
  step_within (x ∷ xs) [] i d e a b = absurd (omega arith)
  step_within (x ∷ xs) (y ∷ ys) zero d e a b = ap (λ rest. put x y ∷ rest) (sym (sum_nil xs))
  step_within (x ∷ xs) (y ∷ ys) (suc i) d e a b = ap (λ rest. put x y ∷ rest) (step_within xs ys i d e (omega arith) (omega arith))

  pub step_past : (xs ys : List A) (i : ℕ) (e : A) → length xs ≤ i → i < length ys → merged put xs (take i ys) ++ get_or ys i e ∷ [] ≡ merged put xs (take (suc i) ys)
  step_past [] [] i e a b = absurd (omega arith)
  step_past [] (y ∷ ys) zero e a b = refl
  step_past [] (y ∷ ys) (suc i) e a b = ap (λ rest. y ∷ rest) (step_past [] ys i e (omega arith) (omega arith))
  step_past (x ∷ xs) [] i e a b = absurd (omega arith)
  step_past (x ∷ xs) (y ∷ ys) zero e a b = absurd (omega arith)
  step_past (x ∷ xs) (y ∷ ys) (suc i) e a b = ap (λ rest. put x y ∷ rest) (step_past xs ys i e (omega arith) (omega arith))

  -- items that were not reached yet
  pub within_same : (xs ys : List A) (i : ℕ) (d : A) → i < length xs → get_or (merged put xs (take i ys)) i d ≡ get_or xs i d
  within_same [] ys i d lt = absurd (omega arith)
  within_same (x ∷ xs) [] zero d lt = refl
  within_same (x ∷ xs) [] (suc i) d lt = refl
  within_same (x ∷ xs) (y ∷ ys) zero d lt = refl
  within_same (x ∷ xs) (y ∷ ys) (suc i) d lt = within_same xs ys i d (omega arith)

  -- where the first list is the longer one, or the other
  pub length-within : (xs ys : List A) (i : ℕ) → i < length (merged put xs (take i ys)) → i < length xs
  length-within [] ys i lt = let short = take_short ys i in absurd (omega arith)
    where
      take_short : (zs : List A) (j : ℕ) → length (take j zs) ≤ j
      take_short [] zero = omega arith
      take_short [] (suc j) = omega arith
      take_short (z ∷ zs) zero = omega arith
      take_short (z ∷ zs) (suc j) = let r = take_short zs j in omega arith
  length-within (x ∷ xs) [] zero lt = lt
  length-within (x ∷ xs) [] (suc i) lt = lt
  length-within (x ∷ xs) (y ∷ ys) zero lt = omega arith
  length-within (x ∷ xs) (y ∷ ys) (suc i) lt = let r = length-within xs ys i (omega arith) in omega arith

  pub length-past : (xs ys : List A) (i : ℕ) → length (merged put xs (take i ys)) ≤ i → length xs ≤ i
  length-past [] ys i le = omega arith
  length-past (x ∷ xs) [] zero le = le
  length-past (x ∷ xs) [] (suc i) le = le
  length-past (x ∷ xs) (y ∷ ys) zero le = absurd (omega arith)
  length-past (x ∷ xs) (y ∷ ys) (suc i) le = let r = length-past xs ys i (omega arith) in omega arith
