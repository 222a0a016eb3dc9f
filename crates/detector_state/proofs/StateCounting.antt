-- Counts of ranges, one after another.
use Rattle.std.proofs.Common.{◌≡◌, inl, inr, ℕ, zero, suc, ◌+◌, ◌<◌, ◌≤◌, refl, subst, arith}
use Rattle.detector_state.specs.States.{IsCount}
use Rattle.detector_state.specs.Ranges.{Counts}

module _ (P : ℕ → Type 0) where
  count_all : (n a : ℕ) → ((t : ℕ) → a ≤ t → t < a + n → P t) → IsCount P a n n
  unfolding IsCount
  count_all zero a h = refl
  count_all (suc n) a h = inl (h a (omega arith) (omega arith), (n, refl, count_all n (a + 1) (λ t l u. h t (omega arith) (omega arith))))

  count_none : (n a : ℕ) → ((t : ℕ) → a ≤ t → t < a + n → P t → ⊥) → IsCount P a n 0
  unfolding IsCount
  count_none zero a h = refl
  count_none (suc n) a h = inr (h a (omega arith) (omega arith), count_none n (a + 1) (λ t l u. h t (omega arith) (omega arith)))

  pub count_most : (n a k : ℕ) → IsCount P a n k → k ≤ n
  unfolding IsCount
  count_most zero a k e = omega arith
  count_most (suc n) a k h = elim h [
    | inl (p, (j, e, r)) ↦ omega (arith, count_most n (a + 1) j r)
    | inr (np, r) ↦ omega (arith, count_most n (a + 1) k r)
  ]

  join : (n a b c k j : ℕ) → a + n ≡ b → IsCount P a n k → Counts P b c j → Counts P a c (k + j)
  unfolding IsCount
  join zero a b c k j e h s =
      let same : b ≡ a = omega arith in
      let sum : j ≡ k + j = omega (arith, h) in
      subst (λ (z : ℕ). Counts P a c z) sum (subst (λ (z : ℕ). Counts P z c j) same s)
  join (suc n) a b c k j e h s = elim h [
    | inl (p, (i, same, r)) ↦
        let (m, em, more) = join n (a + 1) b c i j (omega arith) r s in
        (suc m, omega arith, inl (p, (i + j, omega arith, more)))
    | inr (np, r) ↦
        let (m, em, more) = join n (a + 1) b c k j (omega arith) r s in
        (suc m, omega arith, inr (np, more))
  ]

  pub counts_all : (a b d : ℕ) → a + d ≡ b → ((t : ℕ) → a ≤ t → t < b → P t) → Counts P a b d
  counts_all a b d e h = (d, e, count_all d a (λ t l u. h t l (omega arith)))

  pub counts_none : (a b d : ℕ) → a + d ≡ b → ((t : ℕ) → a ≤ t → t < b → P t → ⊥) → Counts P a b 0
  counts_none a b d e h = (d, e, count_none d a (λ t l u. h t l (omega arith)))

  pub counts_empty : (a : ℕ) → Counts P a a 0
  unfolding IsCount
  counts_empty a = (0, omega arith, refl)

  pub counts_join : (a b c k j : ℕ) → Counts P a b k → Counts P b c j → Counts P a c (k + j)
  counts_join a b c k j (n, e, h) s = join n a b c k j e h s

  pub counts_most : (a b k : ℕ) → Counts P a b k → a + k ≤ b
  counts_most a b k (n, e, h) = omega (arith, count_most n a k h)

  pub counts_hour : (a n k : ℕ) → Counts P a (a + n) k → IsCount P a n k
  counts_hour a n k (m, e, h) = let same : m ≡ n = omega arith in subst (λ (z : ℕ). IsCount P a z k) same h
