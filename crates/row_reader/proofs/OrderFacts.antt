-- A stable sort by the tenth gives the rows tenth by tenth.
use Rattle.std.proofs.Common.{◌≡◌, ◌≤◌, ◌<◌, ◌+◌, ℕ, suc, zero, Bool, true, false, List, [], ◌∷◌, ◌++◌, length, refl, sym, ap, ◌∙◌, arith, get_or, cond, append-nil}
use Rattle.std.proofs.Common.{inl, inr}
use Rattle.std.proofs.lemmas.Bool.{cases_lt}
use Rattle.std.proofs.lemmas.Bool.Decides.{nat_tests}
use Rattle.std.specs.List.Sorted.{IsNonDecreasingBy, IsStableByKey, ties}
use Rattle.std.specs.Prelude.{◌==◌}
use Rattle.std.specs.Ordering.{nat_cmp, is_lt}
use Rattle.sig_base.specs.declared.values.Row.{Row}
use Rattle.sig_base.specs.HourRows.{RiseIn}
use Rattle.sig_base.proofs.Common.{filter_same, tie_is}
use Rattle.row_reader.specs.Order.{rows_at, rows_from, AreWithin}

-- no row is before this tenth or the row in front of it
abbrev pub Rise : ℕ → List Row → Type 0
Rise from [] = Unit {0}
Rise from (x ∷ xs) = (from ≤ x.at) × Rise x.at xs

rise-lower : (a b : ℕ) (xs : List Row) → a ≤ b → Rise b xs → Rise a xs
rise-lower a b [] h k = tt
rise-lower a b (x ∷ xs) h k = (omega (arith, k.0), k.1)

-- a list that rises from above a tenth has no row of it
none_at : (t a : ℕ) (xs : List Row) → t < a → Rise a xs → rows_at t xs ≡ []
none_at t a [] h k = refl
none_at t a (x ∷ xs) h k =
    let ne : (x.at == t) ≡ false = grind (arith, nat_tests, k.0) in
    rw ne (none_at t x.at xs (omega (arith, k.0)) k.1)

same_head : (a b : Row) (xs ys : List Row) → (a ∷ xs) ≡ (b ∷ ys) → (a ≡ b) × (xs ≡ ys)
same_head a b xs ys e = (cc, cc)

here : (x : Row) (xs : List Row) → rows_at x.at (x ∷ xs) ≡ x ∷ rows_at x.at xs
here x xs = let e : (x.at == x.at) ≡ true = grind (arith, nat_tests) in rw e refl

-- where the heads are one row, the rests have the same rows of each tenth
rest-same : (x : Row) (xs ys : List Row) (t : ℕ) → rows_at t (x ∷ xs) ≡ rows_at t (x ∷ ys) → rows_at t xs ≡ rows_at t ys
rest-same x xs ys t h = by_test (x.at == t) h
  where
    by_test : (b : Bool) → cond b (x ∷ rows_at t xs) (rows_at t xs) ≡ cond b (x ∷ rows_at t ys) (rows_at t ys) → rows_at t xs ≡ rows_at t ys
    by_test true e = (same_head x x _ _ e).1
    by_test false e = e

here_at : (t : ℕ) (x : Row) (xs : List Row) → x.at ≡ t → rows_at t (x ∷ xs) ≡ x ∷ rows_at t xs
here_at t x xs h = let e : (x.at == t) ≡ true = grind (arith, nat_tests) in rw e refl

-- the first rows are at one tenth
heads-not-apart : (x y : Row) (xs ys : List Row) → Rise y.at ys → rows_at x.at (x ∷ xs) ≡ rows_at x.at (y ∷ ys) → x.at < y.at → ⊥
heads-not-apart x y xs ys k e h =
    let q : x ∷ rows_at x.at xs ≡ [] = sym (here x xs) ∙ e ∙ none_at x.at y.at (y ∷ ys) h (omega arith, k) in cc

heads-level : (x y : Row) (xs ys : List Row) → Rise x.at xs → Rise y.at ys → ((t : ℕ) → rows_at t (x ∷ xs) ≡ rows_at t (y ∷ ys)) → y.at ≡ x.at
heads-level x y xs ys h k e =
    elim (cases_lt x.at y.at) as (λ c. y.at ≡ x.at) [
      | inl below ↦ absurd (heads-not-apart x y xs ys k (e x.at) below)
      | inr above ↦ elim (cases_lt y.at x.at) as (λ c. y.at ≡ x.at) [
        | inl below ↦ absurd (heads-not-apart y x ys xs h (sym (e y.at)) below)
        | inr other ↦ omega arith
      ]
    ]

-- two lists that rise and have the same rows of each tenth are one
pub same-rising : (a : ℕ) (xs ys : List Row) → Rise a xs → Rise a ys → ((t : ℕ) → rows_at t xs ≡ rows_at t ys) → xs ≡ ys
same-rising a [] [] h k e = refl
same-rising a [] (y ∷ ys) h k e = let q : [] ≡ y ∷ rows_at y.at ys = e y.at ∙ here y ys in cc
same-rising a (x ∷ xs) [] h k e = let q : x ∷ rows_at x.at xs ≡ [] = sym (here x xs) ∙ e x.at in cc
same-rising a (x ∷ xs) (y ∷ ys) h k e =
    let level : y.at ≡ x.at = heads-level x y xs ys h.1 k.1 e in
    let q : x ∷ rows_at x.at xs ≡ y ∷ rows_at x.at ys = sym (here x xs) ∙ e x.at ∙ here_at x.at y ys level in
    let s : x ≡ y = (same_head x y _ _ q).0 in
    let rest : (t : ℕ) → rows_at t xs ≡ rows_at t ys = λ t. rest-same x xs ys t (e t ∙ (rw s refl)) in
    let ih : xs ≡ ys = same-rising x.at xs ys h.1 (rw (← level) k.1) rest in
    rw (s, ih) refl

rows_at-append : (t : ℕ) (xs ys : List Row) → rows_at t (xs ++ ys) ≡ rows_at t xs ++ rows_at t ys
rows_at-append t [] ys = refl
rows_at-append t (x ∷ xs) ys = push (x.at == t) (rows_at-append t xs ys)
  where
    push : (b : Bool) → rows_at t (xs ++ ys) ≡ rows_at t xs ++ rows_at t ys
        → cond b (x ∷ rows_at t (xs ++ ys)) (rows_at t (xs ++ ys)) ≡ cond b (x ∷ rows_at t xs) (rows_at t xs) ++ rows_at t ys
    push true e = ap (λ (l : List Row). x ∷ l) e
    push false e = e

-- the rows of one tenth, and then rows that are not before it
rows_at-rise : (t : ℕ) (xs ys : List Row) → Rise t ys → Rise t (rows_at t xs ++ ys)
rows_at-rise t [] ys h = h
rows_at-rise t (x ∷ xs) ys h = put (x.at == t) refl (rows_at-rise t xs ys h)
  where
    put : (b : Bool) → (x.at == t) ≡ b → Rise t (rows_at t xs ++ ys) → Rise t (cond b (x ∷ rows_at t xs) (rows_at t xs) ++ ys)
    put true e k = let q : x.at ≡ t = grind (arith, nat_tests) in (omega arith, rw q k)
    put false e k = k

pub rows_from-rise : (n t : ℕ) (xs : List Row) → Rise t (rows_from n t xs)
unfolding rows_from
rows_from-rise zero t xs = tt
rows_from-rise (suc n) t xs = rows_at-rise t xs (rows_from n (t + 1) xs) (rise-lower t (t + 1) _ (omega arith) (rows_from-rise n (t + 1) xs))

-- the rows of a tenth among those of the same or of another one
same_tenth : (t : ℕ) (xs : List Row) → rows_at t (rows_at t xs) ≡ rows_at t xs
same_tenth t [] = refl
same_tenth t (x ∷ xs) = put (x.at == t) refl (same_tenth t xs)
  where
    put : (b : Bool) → (x.at == t) ≡ b → rows_at t (rows_at t xs) ≡ rows_at t xs → rows_at t (cond b (x ∷ rows_at t xs) (rows_at t xs)) ≡ cond b (x ∷ rows_at t xs) (rows_at t xs)
    put true e k = rw e (ap (λ (l : List Row). x ∷ l) k)
    put false e k = k

other_tenth : (s t : ℕ) (xs : List Row) → (s ≡ t → ⊥) → rows_at s (rows_at t xs) ≡ []
other_tenth s t [] ne = refl
other_tenth s t (x ∷ xs) ne = put (x.at == t) refl (other_tenth s t xs ne)
  where
    put : (b : Bool) → (x.at == t) ≡ b → rows_at s (rows_at t xs) ≡ [] → rows_at s (cond b (x ∷ rows_at t xs) (rows_at t xs)) ≡ []
    put true e k = let q : (x.at == s) ≡ false = grind (arith, nat_tests) in rw q k
    put false e k = k

rows_from-before : (n t s : ℕ) (xs : List Row) → s < t → rows_at s (rows_from n t xs) ≡ []
rows_from-before n t s xs h = none_at s t (rows_from n t xs) h (rows_from-rise n t xs)

rows_from-within : (n t s : ℕ) (xs : List Row) → t ≤ s → s < t + n → rows_at s (rows_from n t xs) ≡ rows_at s xs
unfolding rows_from
rows_from-within zero t s xs a b = absurd (omega arith)
rows_from-within (suc n) t s xs a b =
    rows_at-append s (rows_at t xs) (rows_from n (t + 1) xs) ∙
    elim (cases_lt t s) as (λ c. rows_at s (rows_at t xs) ++ rows_at s (rows_from n (t + 1) xs) ≡ rows_at s xs) [
      | inl below ↦ (rw (other_tenth s t xs (λ e. omega arith)) (rows_from-within n (t + 1) s xs (omega arith) (omega arith)))
      | inr here ↦ let e : s ≡ t = omega arith in rw (e, same_tenth t xs, rows_from-before n (t + 1) t xs (omega arith)) (append-nil (rows_at t xs))
    ]

rows_from-after : (n t s : ℕ) (xs : List Row) → t + n ≤ s → rows_at s (rows_from n t xs) ≡ []
unfolding rows_from
rows_from-after zero t s xs a = refl
rows_from-after (suc n) t s xs a =
    rows_at-append s (rows_at t xs) (rows_from n (t + 1) xs) ∙
    (rw (other_tenth s t xs (λ e. omega arith)) (rows_from-after n (t + 1) s xs (omega arith)))

-- no row is at a tenth outside
none-before : (from to s : ℕ) (xs : List Row) → AreWithin from to xs → s < from → rows_at s xs ≡ []
none-before from to s [] h k = refl
none-before from to s (x ∷ xs) h k =
    let q : (x.at == s) ≡ false = grind (arith, nat_tests, h.0) in rw q (none-before from to s xs h.2 k)

none-after : (from to s : ℕ) (xs : List Row) → AreWithin from to xs → to ≤ s → rows_at s xs ≡ []
none-after from to s [] h k = refl
none-after from to s (x ∷ xs) h k =
    let q : (x.at == s) ≡ false = grind (arith, nat_tests, h.1) in rw q (none-after from to s xs h.2 k)

-- each tenth has the rows that it had
pub rows_from-at : (n t s : ℕ) (xs : List Row) → AreWithin t (t + n) xs → rows_at s (rows_from n t xs) ≡ rows_at s xs
rows_from-at n t s xs h =
    elim (cases_lt s t) as (λ c. rows_at s (rows_from n t xs) ≡ rows_at s xs) [
      | inl before ↦ rows_from-before n t s xs before ∙ sym (none-before t (t + n) s xs h before)
      | inr other ↦ elim (cases_lt s (t + n)) as (λ c. rows_at s (rows_from n t xs) ≡ rows_at s xs) [
        | inl within ↦ rows_from-within n t s xs (omega arith) within
        | inr after ↦ rows_from-after n t s xs (omega arith) ∙ sym (none-after t (t + n) s xs h (omega arith))
      ]
    ]

-- what std says of a sorted list, as a rise
rise-from : (a : ℕ) (xs : List Row) → ((d : Row) → 0 < length xs → a ≤ (get_or xs 0 d).at)
    → ((k : ℕ) (d : Row) → suc k < length xs → (get_or xs k d).at ≤ (get_or xs (suc k) d).at) → Rise a xs
rise-from a [] h k = tt
rise-from a (x ∷ xs) h k =
    (h x (omega arith), rise-from x.at xs (λ d lt. k 0 d (omega arith)) (λ i d lt. k (suc i) d (omega arith)))

pub in-order : (n t : ℕ) (xs ys : List Row) → AreWithin t (t + n) xs → IsNonDecreasingBy (λ (r : Row). r.at) ys → IsStableByKey (λ (r : Row). r.at) nat_cmp xs ys
    → ys ≡ rows_from n t xs
in-order n t xs ys h sorted stable =
    same-rising 0 ys (rows_from n t xs) (rise-from 0 ys (λ d lt. omega arith) (λ k d lt. sorted k (suc k) d (omega arith) lt))
    (rise-lower 0 t _ (omega arith) (rows_from-rise n t xs))
    (λ s. let x : Row = record { at = s; code = 0; param = 0 } in
    let same : (y : Row) → ties (λ (a b : Row). is_lt (nat_cmp a.at b.at)) x y ≡ (y.at == s) = λ y. tie_is s y.at in
    sym (filter_same _ _ ys same) ∙ stable x ∙ filter_same _ _ xs same ∙ sym (rows_from-at n t s xs h))

within-append : (from to : ℕ) (xs ys : List Row) → AreWithin from to xs → AreWithin from to ys → AreWithin from to (xs ++ ys)
within-append from to [] ys h k = k
within-append from to (x ∷ xs) ys h k = (h.0, h.1, within-append from to xs ys h.2 k)

within-rows_at : (from to t : ℕ) (xs : List Row) → AreWithin from to xs → AreWithin from to (rows_at t xs)
within-rows_at from to t [] h = tt
within-rows_at from to t (x ∷ xs) h = put (x.at == t) (within-rows_at from to t xs h.2)
  where
    put : (b : Bool) → AreWithin from to (rows_at t xs) → AreWithin from to (cond b (x ∷ rows_at t xs) (rows_at t xs))
    put true k = (h.0, h.1, k)
    put false k = k

within-rows_from : (from to n t : ℕ) (xs : List Row) → AreWithin from to xs → AreWithin from to (rows_from n t xs)
unfolding rows_from
within-rows_from from to zero t xs h = tt
within-rows_from from to (suc n) t xs h = within-append from to _ _ (within-rows_at from to t xs h) (within-rows_from from to n (t + 1) xs h)

both-rise : (a from to : ℕ) (xs : List Row) → Rise a xs → AreWithin from to xs → RiseIn a to xs
both-rise a from to [] h k = tt
both-rise a from to (x ∷ xs) h k = (h.0, k.1, both-rise x.at from to xs h.1 k.2)

pub rows_from-rise_in : (n t : ℕ) (xs : List Row) → AreWithin t (t + n) xs → RiseIn t (t + n) (rows_from n t xs)
rows_from-rise_in n t xs h = both-rise t t (t + n) (rows_from n t xs) (rows_from-rise n t xs) (within-rows_from t (t + n) n t xs h)
