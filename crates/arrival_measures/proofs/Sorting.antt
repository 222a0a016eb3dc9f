-- Points by tenth.
use Rattle.std.proofs.Common.{◌≡◌, ◌≤◌, ◌<◌, ◌+◌, ◌-◌, ℕ, suc, zero, Bool, true, false, not, ◌&&◌, leb, ltb, List, [], ◌∷◌, ◌++◌, length, refl, sym, ap, ◌∙◌, arith, get_or, cond, drop, take, filter, append-nil, inl, inr}
use Rattle.std.proofs.lemmas.Bool.{and_parts, cases_Bool, cases_lt, eqb-true, leb-true, le-leb, lt-ltb, ltb-true, and_from}
use Rattle.std.proofs.lemmas.Bool.Decides.{nat_tests}
use Rattle.std.specs.List.Sorted.{IsNonDecreasingBy, IsStableByKey, ties}
use Rattle.std.specs.Prelude.{◌==◌}
use Rattle.std.specs.Ordering.{nat_cmp, is_lt}
use Rattle.std.proofs.lemmas.List.Elements.{filter_agree}
use Rattle.sig_base.proofs.Common.{tie_is}
use Rattle.arrival_measures.proofs.Between.{not_before}
use Rattle.arrival_measures.proofs.Own.{filter_filter, filter_less}
use Rattle.arrival_measures.specs.declared.points.Point.{Point}
use Rattle.arrival_measures.specs.Points.{IsByTenth, at_tenth, by_tenth}

-- no point is before this tenth or the point in front of it
abbrev pub Rise : ℕ → List Point → Type 0
Rise from [] = Unit {0}
Rise from (x ∷ xs) = (from ≤ x.offset) × Rise x.offset xs

rise-lower : (a b : ℕ) (xs : List Point) → a ≤ b → Rise b xs → Rise a xs
rise-lower a b [] h k = tt
rise-lower a b (x ∷ xs) h k = (omega (arith, k.0), k.1)

-- a list that rises from above a tenth has no point of it
none_at : (t a : ℕ) (xs : List Point) → t < a → Rise a xs → at_tenth t xs ≡ []
none_at t a [] h k = refl
none_at t a (x ∷ xs) h k =
    let ne : (x.offset == t) ≡ false = grind (arith, nat_tests, k.0) in
    rw ne (none_at t x.offset xs (omega (arith, k.0)) k.1)

same_head : (a b : Point) (xs ys : List Point) → (a ∷ xs) ≡ (b ∷ ys) → (a ≡ b) × (xs ≡ ys)
same_head a b xs ys e = (cc, cc)

here : (x : Point) (xs : List Point) → at_tenth x.offset (x ∷ xs) ≡ x ∷ at_tenth x.offset xs
here x xs = let e : (x.offset == x.offset) ≡ true = grind (arith, nat_tests) in rw e refl

-- where the heads are one row, the rests have the same points of each tenth
rest-same : (x : Point) (xs ys : List Point) (t : ℕ) → at_tenth t (x ∷ xs) ≡ at_tenth t (x ∷ ys) → at_tenth t xs ≡ at_tenth t ys
rest-same x xs ys t h = by_test (x.offset == t) h
  where
    by_test : (b : Bool) → cond b (x ∷ at_tenth t xs) (at_tenth t xs) ≡ cond b (x ∷ at_tenth t ys) (at_tenth t ys) → at_tenth t xs ≡ at_tenth t ys
    by_test true e = (same_head x x _ _ e).1
    by_test false e = e

here_at : (t : ℕ) (x : Point) (xs : List Point) → x.offset ≡ t → at_tenth t (x ∷ xs) ≡ x ∷ at_tenth t xs
here_at t x xs h = let e : (x.offset == t) ≡ true = grind (arith, nat_tests) in rw e refl

-- the first points are at one tenth
heads-not-apart : (x y : Point) (xs ys : List Point) → Rise y.offset ys → at_tenth x.offset (x ∷ xs) ≡ at_tenth x.offset (y ∷ ys) → x.offset < y.offset → ⊥
heads-not-apart x y xs ys k e h =
    let q : x ∷ at_tenth x.offset xs ≡ [] = sym (here x xs) ∙ e ∙ none_at x.offset y.offset (y ∷ ys) h (omega arith, k) in cc

heads-level : (x y : Point) (xs ys : List Point) → Rise x.offset xs → Rise y.offset ys → ((t : ℕ) → at_tenth t (x ∷ xs) ≡ at_tenth t (y ∷ ys)) → y.offset ≡ x.offset
heads-level x y xs ys h k e =
    elim (cases_lt x.offset y.offset) as (λ c. y.offset ≡ x.offset) [
      | inl below ↦ absurd (heads-not-apart x y xs ys k (e x.offset) below)
      | inr above ↦ elim (cases_lt y.offset x.offset) as (λ c. y.offset ≡ x.offset) [
        | inl below ↦ absurd (heads-not-apart y x ys xs h (sym (e y.offset)) below)
        | inr other ↦ omega arith
      ]
    ]

-- two lists that rise and have the same points of each tenth are one
pub same-rising : (a : ℕ) (xs ys : List Point) → Rise a xs → Rise a ys → ((t : ℕ) → at_tenth t xs ≡ at_tenth t ys) → xs ≡ ys
same-rising a [] [] h k e = refl
same-rising a [] (y ∷ ys) h k e = let q : [] ≡ y ∷ at_tenth y.offset ys = e y.offset ∙ here y ys in cc
same-rising a (x ∷ xs) [] h k e = let q : x ∷ at_tenth x.offset xs ≡ [] = sym (here x xs) ∙ e x.offset in cc
same-rising a (x ∷ xs) (y ∷ ys) h k e =
    let level : y.offset ≡ x.offset = heads-level x y xs ys h.1 k.1 e in
    let q : x ∷ at_tenth x.offset xs ≡ y ∷ at_tenth x.offset ys = sym (here x xs) ∙ e x.offset ∙ here_at x.offset y ys level in
    let s : x ≡ y = (same_head x y _ _ q).0 in
    let rest : (t : ℕ) → at_tenth t xs ≡ at_tenth t ys = λ t. rest-same x xs ys t (e t ∙ (rw s refl)) in
    let ih : xs ≡ ys = same-rising x.offset xs ys h.1 (rw (← level) k.1) rest in
    rw (s, ih) refl

at_tenth-append : (t : ℕ) (xs ys : List Point) → at_tenth t (xs ++ ys) ≡ at_tenth t xs ++ at_tenth t ys
at_tenth-append t [] ys = refl
at_tenth-append t (x ∷ xs) ys = push (x.offset == t) (at_tenth-append t xs ys)
  where
    push : (b : Bool) → at_tenth t (xs ++ ys) ≡ at_tenth t xs ++ at_tenth t ys
        → cond b (x ∷ at_tenth t (xs ++ ys)) (at_tenth t (xs ++ ys)) ≡ cond b (x ∷ at_tenth t xs) (at_tenth t xs) ++ at_tenth t ys
    push true e = ap (λ (l : List Point). x ∷ l) e
    push false e = e

-- the points of one tenth, and then points that are not before it
at_tenth-rise : (t : ℕ) (xs ys : List Point) → Rise t ys → Rise t (at_tenth t xs ++ ys)
at_tenth-rise t [] ys h = h
at_tenth-rise t (x ∷ xs) ys h = put (x.offset == t) refl (at_tenth-rise t xs ys h)
  where
    put : (b : Bool) → (x.offset == t) ≡ b → Rise t (at_tenth t xs ++ ys) → Rise t (cond b (x ∷ at_tenth t xs) (at_tenth t xs) ++ ys)
    put true e k = let q : x.offset ≡ t = grind (arith, nat_tests) in (omega arith, rw q k)
    put false e k = k

pub by_tenth-rise : (n t : ℕ) (xs : List Point) → Rise t (by_tenth n t xs)
unfolding by_tenth
by_tenth-rise zero t xs = tt
by_tenth-rise (suc n) t xs = at_tenth-rise t xs (by_tenth n (t + 1) xs) (rise-lower t (t + 1) _ (omega arith) (by_tenth-rise n (t + 1) xs))

-- the points of a tenth among those of the same or of another one
same_tenth : (t : ℕ) (xs : List Point) → at_tenth t (at_tenth t xs) ≡ at_tenth t xs
same_tenth t [] = refl
same_tenth t (x ∷ xs) = put (x.offset == t) refl (same_tenth t xs)
  where
    put : (b : Bool) → (x.offset == t) ≡ b → at_tenth t (at_tenth t xs) ≡ at_tenth t xs → at_tenth t (cond b (x ∷ at_tenth t xs) (at_tenth t xs)) ≡ cond b (x ∷ at_tenth t xs) (at_tenth t xs)
    put true e k = rw e (ap (λ (l : List Point). x ∷ l) k)
    put false e k = k

other_tenth : (s t : ℕ) (xs : List Point) → (s ≡ t → ⊥) → at_tenth s (at_tenth t xs) ≡ []
other_tenth s t [] ne = refl
other_tenth s t (x ∷ xs) ne = put (x.offset == t) refl (other_tenth s t xs ne)
  where
    put : (b : Bool) → (x.offset == t) ≡ b → at_tenth s (at_tenth t xs) ≡ [] → at_tenth s (cond b (x ∷ at_tenth t xs) (at_tenth t xs)) ≡ []
    put true e k = let q : (x.offset == s) ≡ false = grind (arith, nat_tests) in rw q k
    put false e k = k

by_tenth-before : (n t s : ℕ) (xs : List Point) → s < t → at_tenth s (by_tenth n t xs) ≡ []
by_tenth-before n t s xs h = none_at s t (by_tenth n t xs) h (by_tenth-rise n t xs)

by_tenth-within : (n t s : ℕ) (xs : List Point) → t ≤ s → s < t + n → at_tenth s (by_tenth n t xs) ≡ at_tenth s xs
unfolding by_tenth
by_tenth-within zero t s xs a b = absurd (omega arith)
by_tenth-within (suc n) t s xs a b =
    at_tenth-append s (at_tenth t xs) (by_tenth n (t + 1) xs) ∙
    elim (cases_lt t s) as (λ c. at_tenth s (at_tenth t xs) ++ at_tenth s (by_tenth n (t + 1) xs) ≡ at_tenth s xs) [
      | inl below ↦ (rw (other_tenth s t xs (λ e. omega arith)) (by_tenth-within n (t + 1) s xs (omega arith) (omega arith)))
      | inr here ↦ let e : s ≡ t = omega arith in rw (e, same_tenth t xs, by_tenth-before n (t + 1) t xs (omega arith)) (append-nil (at_tenth t xs))
    ]

by_tenth-after : (n t s : ℕ) (xs : List Point) → t + n ≤ s → at_tenth s (by_tenth n t xs) ≡ []
unfolding by_tenth
by_tenth-after zero t s xs a = refl
by_tenth-after (suc n) t s xs a =
    at_tenth-append s (at_tenth t xs) (by_tenth n (t + 1) xs) ∙
    (rw (other_tenth s t xs (λ e. omega arith)) (by_tenth-after n (t + 1) s xs (omega arith)))

-- what std says of a sorted list, as a rise
rise-from : (a : ℕ) (xs : List Point) → ((d : Point) → 0 < length xs → a ≤ (get_or xs 0 d).offset)
    → ((k : ℕ) (d : Point) → suc k < length xs → (get_or xs k d).offset ≤ (get_or xs (suc k) d).offset) → Rise a xs
rise-from a [] h k = tt
rise-from a (x ∷ xs) h k =
    (h x (omega arith), rise-from x.offset xs (λ d lt. k 0 d (omega arith)) (λ i d lt. k (suc i) d (omega arith)))

filter-same : (p q : Point → Bool) (xs : List Point) → ((y : Point) → p y ≡ q y) → filter p xs ≡ filter q xs
filter-same p q [] h = refl
filter-same p q (x ∷ xs) h = rw (h x, filter-same p q xs h) refl

pub sorted_is : (xs ys : List Point) → IsNonDecreasingBy (λ (r : Point). r.offset) ys → IsStableByKey (λ (r : Point). r.offset) nat_cmp xs ys → IsByTenth xs ys
sorted_is xs ys sorted stable = record {
  rise = sorted;
  same = λ s.
      let x : Point = record { approach = 0; offset = s } in
      let same : (y : Point) → ties (λ (a b : Point). is_lt (nat_cmp a.offset b.offset)) x y ≡ (y.offset == s) = λ y. tie_is s y.offset in
      sym (filter-same _ _ ys same) ∙ stable x ∙ filter-same _ _ xs same;
}

-- the points between two tenths

kept_rise : (P : Point → Bool) (a : ℕ) (xs : List Point) → Rise a xs → Rise a (filter P xs)
kept_rise P a [] h = tt
kept_rise P a (x ∷ xs) h = elim (cases_Bool (P x)) [
  | inl e ↦ rw e (h.0, kept_rise P x.offset xs h.1)
  | inr e ↦ rw e (kept_rise P a xs (rise-lower a x.offset xs h.0 h.1))
]

abbrev between : ℕ → ℕ → Point → Bool
between f t x = leb f x.offset && ltb x.offset t

within_at : (f t s : ℕ) (xs : List Point) → f ≤ s → s < t → at_tenth s (filter (between f t) xs) ≡ at_tenth s xs
within_at f t s xs lo hi = filter_less (λ (x : Point). x.offset == s) (between f t) (λ x e. let at = eqb-true x.offset s e in and_from (leb f x.offset) (ltb x.offset t) (le-leb f x.offset (omega arith)) (lt-ltb x.offset t (omega arith))) xs

outside_at : (f t s : ℕ) (xs : List Point) → (f ≤ s → s < t → ⊥) → at_tenth s (filter (between f t) xs) ≡ []
outside_at f t s [] out = refl
outside_at f t s (x ∷ xs) out = elim (cases_Bool (between f t x)) [
  | inr e ↦ rw e (outside_at f t s xs out)
  | inl e ↦
      let both = and_parts (leb f x.offset) (ltb x.offset t) e in
      let lo = leb-true f x.offset both.0 in
      let hi = ltb-true x.offset t both.1 in
      let ne : (x.offset == s) ≡ false = elim (cases_Bool (x.offset == s)) [ inl same ↦ absurd (let at = eqb-true x.offset s same in out (omega arith) (omega arith)) | inr off ↦ off ] in
      rw (e, ne) (outside_at f t s xs out)
]

pub within_is : (f t : ℕ) (all sorted : List Point) → IsByTenth all sorted → filter (between f t) sorted ≡ by_tenth (t - f) f all
within_is f t all sorted is =
    let rise = rise-from 0 sorted (λ d lt. omega arith) (λ k d lt. is.rise k (suc k) d (omega arith) lt) in
    same-rising 0 (filter (between f t) sorted) (by_tenth (t - f) f all) (kept_rise (between f t) 0 sorted rise)
    (rise-lower 0 f _ (omega arith) (by_tenth-rise (t - f) f all))
    (λ s. elim (cases_lt s f) [
      | inl below ↦ outside_at f t s sorted (λ lo hi. absurd (omega arith)) ∙ sym (by_tenth-before (t - f) f s all below)
      | inr lo ↦ elim (cases_lt s t) [
        | inl hi ↦ within_at f t s sorted lo hi ∙ is.same s ∙ sym (by_tenth-within (t - f) f s all lo (omega arith))
        | inr past ↦ outside_at f t s sorted (λ a b. absurd (omega arith)) ∙ sym (by_tenth-after (t - f) f s all (omega arith))
      ]
    ])

-- as the code cuts them

pub drop_rise : (xs : List Point) (i : ℕ) → IsNonDecreasingBy (λ (x : Point). x.offset) xs → IsNonDecreasingBy (λ (x : Point). x.offset) (drop i xs)
drop_rise xs zero h = h
drop_rise [] (suc i) h = h
drop_rise (x ∷ xs) (suc i) h = drop_rise xs i (λ j k d le lt. h (suc j) (suc k) d (omega arith) (omega arith))

pub points_between : (f t i j : ℕ) (points later within : List Point) → later ≡ drop i points → drop i points ≡ filter (λ x. not (ltb x.offset f)) points → within ≡ take j later → take j later ≡ filter (λ x. ltb x.offset t) later → within ≡ filter (between f t) points
points_between f t i j points later within el ed eb et =
    eb ∙ et ∙ ap (λ zs. filter (λ x. ltb x.offset t) zs) (el ∙ ed)
    ∙ filter_filter (λ x. ltb x.offset t) (λ x. not (ltb x.offset f)) points
    ∙ filter_agree (λ x. not (ltb x.offset f) && ltb x.offset t) (λ x. leb f x.offset && ltb x.offset t) (λ x. ap (λ v. v && ltb x.offset t) (not_before x.offset f)) points
