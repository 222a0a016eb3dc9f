-- Counts of what implies another, and of what is decided.
use Rattle.std.proofs.Common.{suc, zero, refl, subst, ◌⊎◌, inl, inr, ◌≡◌, ℕ, ◌+◌, ◌-◌, ◌<◌, ◌≤◌, arith}
use Rattle.detector_state.specs.States.{IsCount}
use Rattle.detector_state.specs.Ranges.{Counts}

module _ (P Q : ℕ → Type 0) where
  count_le : (n a k j : ℕ) → ((x : ℕ) → a ≤ x → x < a + n → P x → Q x) → IsCount P a n k → IsCount Q a n j → k ≤ j
  unfolding IsCount
  count_le zero a k j h e f = omega arith
  count_le (suc n) a k j h p q =
      let rest = λ (x y : ℕ) (r : IsCount P (a + 1) n x) (s : IsCount Q (a + 1) n y). count_le n (a + 1) x y (λ t l u. h t (omega arith) (omega arith)) r s in
      elim p [
        | inl (here, (x, ex, r)) ↦ elim q [
          | inl (there, (y, ey, s)) ↦ omega (arith, rest x y r s)
          | inr (absent, s) ↦ absurd (absent (h a (omega arith) (omega arith) here))
        ]
        | inr (none, r) ↦ elim q [
          | inl (there, (y, ey, s)) ↦ omega (arith, rest k y r s)
          | inr (absent, s) ↦ rest k j r s
        ]
      ]

  -- of what implies another there are no more
  pub counts_le : (a b k j : ℕ) → ((x : ℕ) → a ≤ x → x < b → P x → Q x) → Counts P a b k → Counts Q a b j → k ≤ j
  counts_le a b k j h (n, e, p) (m, f, q) =
      let same : m ≡ n = omega arith in
      count_le n a k j (λ x l u. h x l (omega arith)) p (subst (λ (z : ℕ). IsCount Q a z j) same q)

module _ (P : ℕ → Type 0) where
  count_some : (n a : ℕ) → ((x : ℕ) → a ≤ x → x < a + n → P x ⊎ (P x → ⊥)) → (k : ℕ) × IsCount P a n k
  unfolding IsCount
  count_some zero a h = (0, refl)
  count_some (suc n) a h =
      let (k, r) = count_some n (a + 1) (λ x l u. h x (omega arith) (omega arith)) in
      elim (h a (omega arith) (omega arith)) [
        | inl here ↦ (suc k, inl (here, (k, refl, r)))
        | inr none ↦ (k, inr (none, r))
      ]

  pub counts_some : (a b : ℕ) → a ≤ b → ((x : ℕ) → a ≤ x → x < b → P x ⊎ (P x → ⊥)) → (k : ℕ) × Counts P a b k
  counts_some a b le h =
      let n = b - a in
      let (k, r) = count_some n a (λ x l u. h x l (omega arith)) in
      (k, (n, omega arith, r))
