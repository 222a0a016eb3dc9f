-- Tables of latest entries: written one by one, and later from round to round.
use Rattle.std.proofs.Common.{suc, ◌≡◌, ◌≢◌, refl, ap, sym, ◌∙◌, ◌⊎◌, inl, inr, ℕ, ◌+◌, ◌<◌, ◌≤◌, ℤ, pos, ◌-ℤ◌, ◌<ℤ◌, ◌≤ℤ◌, List, [], ◌∷◌, length, set, get_or-set_same, get_or-set_other, arith, Option, Some, None}
use Rattle.std.proofs.lemmas.Int.{ints}
use Rattle.std.proofs.lemmas.Bool.{cases_eq, cases_lt}
use Rattle.std.specs.Bool.{Decides}
use Rattle.std.specs.Option.{option_eq}
use Rattle.std.specs.Ordering.{int_eq}
use Rattle.std.proofs.lemmas.Bool.Decides.{Decides-int_eq}
use Rattle.reach.specs.Latest.{entry_of}
use Rattle.reach.proofs.Arriving.{dist, dist_is}

pub entry_more : (P : ℕ → Option ℤ → Type 0) (new : List (Option ℤ)) (k : ℕ) (x : Option ℤ) → k < length new → ((c : ℕ) → c < k → P c (entry_of new c)) → P k x → (c : ℕ) → c < k + 1 → P c (entry_of (set new k x) c)
entry_more P new k x h below here c lt = elim (cases_eq c k) [
  | inl e ↦ let s : entry_of (set new k x) c ≡ x = rw e (get_or-set_same new k x None h) in rw s (rw e here)
  | inr ne ↦ let s : entry_of (set new k x) c ≡ entry_of new c = get_or-set_other new k c x None ne in rw s (below c (omega arith))
]

-- ---- the rounds end
abbrev pub rank : ℤ → ℤ → Option ℤ → ℕ
rank f t None = dist (t -ℤ f) + 36001
rank f t (Some x) = dist (t -ℤ x)

abbrev pub ranks : ℤ → ℤ → List (Option ℤ) → ℕ
ranks f t [] = 0
ranks f t (x ∷ xs) = rank f t x + ranks f t xs

-- b is as late as a, and where a is none not earlier than a floor before the range; nothing is later than t where a isn't
abbrev pub IsLater : ℤ → ℤ → Option ℤ → Option ℤ → Type 0
IsLater f t None None = Unit {0}
IsLater f t None (Some y) = ((f -ℤ pos 36000) ≤ℤ y) × (y <ℤ t)
IsLater f t (Some x) None = ⊥
IsLater f t (Some x) (Some y) = (x ≡ y) ⊎ ((x <ℤ y) × (y <ℤ t))

module _ (f t : ℤ) (ft : f <ℤ t) where
  rank_less : (a b : Option ℤ) → IsLater f t a b → rank f t b ≤ rank f t a
  rank_less None None h = omega arith
  rank_less None (Some y) h = let i = dist_is (t -ℤ y) (omega (arith, ints)) in let j = dist_is (t -ℤ f) (omega (arith, ints)) in omega (arith, ints)
  rank_less (Some x) None h = absurd h
  rank_less (Some x) (Some y) h = elim h [ inl e ↦ rw e (omega arith) | inr k ↦ let i = dist_is (t -ℤ y) (omega (arith, ints)) in let j = dist_is (t -ℤ x) (omega (arith, ints)) in omega (arith, ints) ]

  rank_same : (a b : Option ℤ) → IsLater f t a b → rank f t a ≤ rank f t b → b ≡ a
  rank_same None None h e = refl
  rank_same None (Some y) h e = let i = dist_is (t -ℤ y) (omega (arith, ints)) in let j = dist_is (t -ℤ f) (omega (arith, ints)) in absurd (omega (arith, ints))
  rank_same (Some x) None h e = absurd h
  rank_same (Some x) (Some y) h e = elim h [ inl s ↦ ap Some (sym s) | inr k ↦ let i = dist_is (t -ℤ y) (omega (arith, ints)) in let j = dist_is (t -ℤ x) (omega (arith, ints)) in absurd (omega (arith, ints)) ]

  ranks_less : (a b : List (Option ℤ)) → length b ≡ length a → ((d : ℕ) → d < length a → IsLater f t (entry_of a d) (entry_of b d)) → ranks f t b ≤ ranks f t a
  ranks_less [] [] l h = omega arith
  ranks_less [] (y ∷ ys) l h = absurd (omega arith)
  ranks_less (x ∷ xs) [] l h = absurd (omega arith)
  ranks_less (x ∷ xs) (y ∷ ys) l h = let i = rank_less x y (h 0 (omega arith)) in let j = ranks_less xs ys (omega arith) (λ d lt. h (suc d) (omega arith)) in omega arith

  ranks_same : (a b : List (Option ℤ)) → length b ≡ length a → ((d : ℕ) → d < length a → IsLater f t (entry_of a d) (entry_of b d)) → ranks f t a ≤ ranks f t b → b ≡ a
  ranks_same [] [] l h e = refl
  ranks_same [] (y ∷ ys) l h e = absurd (omega arith)
  ranks_same (x ∷ xs) [] l h e = absurd (omega arith)
  ranks_same (x ∷ xs) (y ∷ ys) l h e =
      let z = h 0 (omega arith) in let i = rank_less x y z in
      let k : (d : ℕ) → d < length xs → IsLater f t (entry_of xs d) (entry_of ys d) = λ d lt. h (suc d) (omega arith) in
      let j = ranks_less xs ys (omega arith) k in
      let hd : y ≡ x = rank_same x y z (omega arith) in
      let tl : ys ≡ xs = ranks_same xs ys (omega arith) k (omega arith) in
      cc

  pub ranks_fall : (a b : List (Option ℤ)) → length b ≡ length a → ((d : ℕ) → d < length a → IsLater f t (entry_of a d) (entry_of b d)) → (b ≡ a → ⊥) → ranks f t b < ranks f t a
  ranks_fall a b l h ne = elim (cases_lt (ranks f t b) (ranks f t a)) [ inl x ↦ x | inr x ↦ absurd (ne (ranks_same a b l h x)) ]

pub none_more : (new : List (Option ℤ)) (k : ℕ) (x : Option ℤ) (n : ℕ) → k < n → ((c : ℕ) → n ≤ c → entry_of new c ≡ None) → (c : ℕ) → n ≤ c → entry_of (set new k x) c ≡ None
none_more new k x n lt h c ge = let ne : c ≢ k = omega arith in get_or-set_other new k c x None ne ∙ h c ge

pub option_decides : (a b : Option ℤ) → Decides (option_eq int_eq a b) (a ≡ b)
option_decides None None = (λ h. refl, λ h. refl)
option_decides None (Some y) = (λ h. absurd (cc), λ h. absurd (cc))
option_decides (Some x) None = (λ h. absurd (cc), λ h. absurd (cc))
option_decides (Some x) (Some y) = (λ h. ap Some ((Decides-int_eq x y).0 h), λ h. (Decides-int_eq x y).1 (cc))
