-- What it can't be that there is none of, step by step.
use Rattle.std.proofs.Common.{◌≡◌, ◌∙◌, sym, subst, ◌⊎◌, inl, inr, ℕ, zero, suc, ◌+◌, ◌<◌, ◌≤◌, List, [], ◌∷◌, ◌++◌, length, get_or, arith, refl}
use Rattle.std.proofs.lemmas.Bool.{cases_lt}
use Rattle.std.proofs.lemmas.List.{length_push, get_or_push, get_or_append_left}
use Rattle.transcript_laws.specs.Exists.{NotNone}

pub some : {A : Type 0} → A → NotNone A
some a nay = nay a

pub then : {A B : Type 0} → NotNone A → (A → NotNone B) → NotNone B
then a f nay = a (λ x. f x nay)

-- the same where the second is there
pub with : {A B : Type 0} → NotNone A → (A → B) → NotNone B
with a f nay = a (λ x. nay (f x))

pub both : {A B : Type 0} → NotNone A → NotNone B → NotNone (A × B)
both a b nay = a (λ x. b (λ y. nay (x, y)))

-- it is, or it isn't
pub decided : (A : Type 0) → NotNone (A ⊎ (A → ⊥))
decided A nay = nay (inr (λ a. nay (inl a)))

-- of each of the first n numbers
pub each_below : (P : ℕ → Type 0) (n : ℕ) → ((k : ℕ) → k < n → NotNone (P k)) → NotNone ((k : ℕ) → k < n → P k)
each_below P zero all nay = nay (λ k lt. absurd (omega arith))
each_below P (suc n) all nay = each_below P n (λ k lt. all k (omega arith)) (λ below. all n (omega arith) (λ here. nay (λ k lt. elim (cases_lt k n) [
  | inl low ↦ below k low
  | inr high ↦ let same : n ≡ k = omega arith in subst P same here
])))

-- one for each of the first n numbers, in a list
pub listed : {X : Type 0} (P : ℕ → X → Type 0) (n : ℕ) → ((k : ℕ) → k < n → NotNone ((x : X) × P k x)) → NotNone ((xs : List X) × (length xs ≡ n) × ((k : ℕ) (d : X) → k < n → P k (get_or xs k d)))
listed P zero all nay = nay ([], refl, λ k d lt. absurd (omega arith))
listed {X} P (suc n) all nay = listed P n (λ k lt. all k (omega arith)) (λ (xs, size, below). all n (omega arith) (λ (x, here). nay (
  xs ++ x ∷ [],
  (let l = length_push xs x in omega arith),
  λ k d lt. elim (cases_lt k n) [
    | inl low ↦ subst (P k) (sym (get_or_append_left xs (x ∷ []) d k (omega arith))) (below k d low)
    | inr high ↦
        let same : k ≡ n = omega arith in
        let at : get_or (xs ++ x ∷ []) k d ≡ x = get_or_push xs x d k (size ∙ sym same) in
        subst (P k) (sym at) (subst (λ (j : ℕ). P j x) (sym same) here)
  ],
)))

-- the least number that has it, where one has
pub least : (P : ℕ → Type 0) (n : ℕ) → P n → NotNone ((k : ℕ) × (k ≤ n) × P k × ((j : ℕ) → j < k → P j → ⊥))
least P n here = down n n (omega arith) (omega arith) here
  where
    down : (m j : ℕ) → j ≤ m → j ≤ n → P j → NotNone ((k : ℕ) × (k ≤ n) × P k × ((i : ℕ) → i < k → P i → ⊥))
    down zero j le within p nay = nay (j, within, p, λ i lt q. absurd (omega arith))
    down (suc m) j le within p nay = decided ((i : ℕ) × (i < j) × P i) (λ d. elim d [
      | inl (i, lt, q) ↦ down m i (omega arith) (omega arith) q nay
      | inr none ↦ nay (j, within, p, λ i lt q. none (i, lt, q))
    ])

-- the greatest one up to a number
pub greatest : (P : ℕ → Type 0) (n k : ℕ) → k ≤ n → P k → NotNone ((m : ℕ) × (m ≤ n) × P m × ((j : ℕ) → m < j → j ≤ n → P j → ⊥))
greatest P n k le here = up n k (omega arith) le here
  where
    up : (m j : ℕ) → n ≤ m + j → j ≤ n → P j → NotNone ((i : ℕ) × (i ≤ n) × P i × ((h : ℕ) → i < h → h ≤ n → P h → ⊥))
    up zero j room within p nay = nay (j, within, p, λ h more under q. absurd (omega arith))
    up (suc m) j room within p nay = decided ((h : ℕ) × (j < h) × (h ≤ n) × P h) (λ d. elim d [
      | inl (h, more, under, q) ↦ up m h (omega arith) under q nay
      | inr none ↦ nay (j, within, p, λ h more under q. none (h, more, under, q))
    ])
