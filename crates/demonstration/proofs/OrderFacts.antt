-- A sort by tenth, code and parameter gives the rows in order.
use Rattle.std.proofs.Common.{◌≡◌, ◌≤◌, ◌<◌, ◌+◌, ℕ, zero, suc, Bool, true, false, List, [], ◌∷◌, length, refl, sym, ap, ap₂, add-one, ◌∙◌, arith, get_or, cond, filter}
use Rattle.std.proofs.lemmas.Bool.Decides.{nat_tests}
use Rattle.std.specs.List.Sorted.{IsNonDecreasingBy, ties}
use Rattle.std.specs.Ordering.{is_lt, nat_cmp, ordering_then}
use Rattle.std.specs.Prelude.{not, ◌&&◌}
use Rattle.sig_base.specs.declared.values.Row.{Row}
use Rattle.sig_base.proofs.Common.{filter_same}
use Rattle.demonstration.specs.Order.{is_before, ordered, placed}

-- ---- the test is an order

before_itself : (x : Row) → is_before x x ≡ false
before_itself x = grind (arith, nat_tests)

not_both : (a b : Row) → is_before a b ≡ true → is_before b a ≡ false
not_both a b h = grind (arith, nat_tests)

one_after : (a b c : Row) → is_before b a ≡ false → is_before c b ≡ false → is_before c a ≡ false
one_after a b c h k = grind (arith, nat_tests)

level : (a b : Row) → is_before a b ≡ false → is_before b a ≡ false → (a.at ≡ b.at) × (a.code ≡ b.code) × (a.param ≡ b.param)
level a b h k = (grind (arith, nat_tests), grind (arith, nat_tests), grind (arith, nat_tests))

one_row : (a b : Row) → is_before a b ≡ false → is_before b a ≡ false → a ≡ b
one_row a b h k = let e = level a b h k in λ i. record { at = e.0 i; code = e.1 i; param = e.2 i }

-- ---- lists in order

-- none of these is before the row
abbrev Above : Row → List Row → Type 0
Above x [] = Unit {0}
Above x (y ∷ ys) = (is_before y x ≡ false) × Above x ys

-- none is before one in front of it
abbrev Rise : List Row → Type 0
Rise [] = Unit {0}
Rise (x ∷ xs) = Above x xs × Rise xs

above_lower : (a b : Row) (xs : List Row) → is_before b a ≡ false → Above b xs → Above a xs
above_lower a b [] h k = tt
above_lower a b (x ∷ xs) h k = (one_after a b x h k.0, above_lower a b xs h k.1)

-- rows like this one
abbrev Like : Row → Row → Bool
Like q x = ties is_before q x

like_is : (q x : Row) → Like q x ≡ true → q ≡ x
like_is q x h = one_row q x (grind (arith, nat_tests)) (grind (arith, nat_tests))

like_itself : (x : Row) → Like x x ≡ true
like_itself x = grind (arith, nat_tests)

-- a row that is before all has none like it
none_like : (x y : Row) (ys : List Row) → is_before x y ≡ true → Above y ys → filter (Like x) (y ∷ ys) ≡ []
none_like x y ys h k = both (beyond y (before_itself y)) (rest ys k)
  where
    beyond : (z : Row) → is_before z y ≡ false → Like x z ≡ false
    beyond z g = by_test (is_before x z) refl
      where
        by_test : (b : Bool) → is_before x z ≡ b → Like x z ≡ false
        by_test true e = rw e refl
        by_test false e = absurd (cc (h, one_after y z x g e))

    rest : (zs : List Row) → Above y zs → filter (Like x) zs ≡ []
    rest [] a = refl
    rest (z ∷ zs) a = rw (beyond z a.0) (rest zs a.1)

    both : Like x y ≡ false → filter (Like x) ys ≡ [] → filter (Like x) (y ∷ ys) ≡ []
    both a b = rw a b

some_like : (x : Row) (xs : List Row) → filter (Like x) (x ∷ xs) ≡ x ∷ filter (Like x) xs
some_like x xs = rw (like_itself x) refl

heads-not-apart : (x y : Row) (xs ys : List Row) → Above y ys → filter (Like x) (x ∷ xs) ≡ filter (Like x) (y ∷ ys) → is_before x y ≡ false
heads-not-apart x y xs ys k e = by_test (is_before x y) refl
  where
    by_test : (b : Bool) → is_before x y ≡ b → is_before x y ≡ false
    by_test true h = let q : x ∷ filter (Like x) xs ≡ [] = sym (some_like x xs) ∙ e ∙ none_like x y ys h k in cc
    by_test false h = h

same_tail : (x : Row) (xs ys : List Row) (q : Row) → filter (Like q) (x ∷ xs) ≡ filter (Like q) (x ∷ ys) → filter (Like q) xs ≡ filter (Like q) ys
same_tail x xs ys q h = by_test (Like q x) h
  where
    by_test : (b : Bool) → cond b (x ∷ filter (Like q) xs) (filter (Like q) xs) ≡ cond b (x ∷ filter (Like q) ys) (filter (Like q) ys) → filter (Like q) xs ≡ filter (Like q) ys
    by_test true e = cc
    by_test false e = e

-- two lists in order with the same rows are one
same_rising : (xs ys : List Row) → Rise xs → Rise ys → ((q : Row) → filter (Like q) xs ≡ filter (Like q) ys) → xs ≡ ys
same_rising [] [] h k e = refl
same_rising [] (y ∷ ys) h k e = let q : [] ≡ y ∷ filter (Like y) ys = e y ∙ some_like y ys in cc
same_rising (x ∷ xs) [] h k e = let q : x ∷ filter (Like x) xs ≡ [] = sym (some_like x xs) ∙ e x in cc
same_rising (x ∷ xs) (y ∷ ys) h k e =
    let s : x ≡ y = one_row x y (heads-not-apart x y xs ys k.0 (e x)) (heads-not-apart y x ys xs h.0 (sym (e y))) in
    let tails : (q : Row) → filter (Like q) xs ≡ filter (Like q) ys = λ q. same_tail x xs ys q (e q ∙ (rw s refl)) in
    let ih : xs ≡ ys = same_rising xs ys h.1 k.1 tails in
    rw (s, ih) refl

-- ---- the definition gives a list in order with the same rows

placed-above : (z r : Row) (xs : List Row) → is_before r z ≡ false → Above z xs → Above z (placed r xs)
unfolding placed
placed-above z r [] h k = (h, tt)
placed-above z r (x ∷ xs) h k = by_test (is_before r x) (placed-above z r xs h k.1)
  where
    by_test : (b : Bool) → Above z (placed r xs) → Above z (cond b (r ∷ x ∷ xs) (x ∷ placed r xs))
    by_test true p = (h, k)
    by_test false p = (k.0, p)

placed-rise : (r : Row) (xs : List Row) → Rise xs → Rise (placed r xs)
unfolding placed
placed-rise r [] h = (tt, tt)
placed-rise r (x ∷ xs) h = by_test (is_before r x) refl (placed-rise r xs h.1)
  where
    by_test : (b : Bool) → is_before r x ≡ b → Rise (placed r xs) → Rise (cond b (r ∷ x ∷ xs) (x ∷ placed r xs))
    by_test true e p = ((not_both r x e, above_lower r x xs (not_both r x e) h.0), h)
    by_test false e p = (placed-above x r xs e h.0, p)

placed-like : (r q : Row) (xs : List Row) → filter (Like q) (placed r xs) ≡ filter (Like q) (r ∷ xs)
unfolding placed
placed-like r q [] = refl
placed-like r q (x ∷ xs) = by_test (is_before r x) (placed-like r q xs)
  where
    swap : (a b : Bool) (f : List Row) → Like q x ≡ a → Like q r ≡ b → cond a (x ∷ cond b (r ∷ f) f) (cond b (r ∷ f) f) ≡ cond b (r ∷ cond a (x ∷ f) f) (cond a (x ∷ f) f)
    swap true true f ea eb = let s : x ≡ r = sym (like_is q x ea) ∙ like_is q r eb in rw s refl
    swap true false f ea eb = refl
    swap false true f ea eb = refl
    swap false false f ea eb = refl

    by_test : (b : Bool) → filter (Like q) (placed r xs) ≡ filter (Like q) (r ∷ xs) → filter (Like q) (cond b (r ∷ x ∷ xs) (x ∷ placed r xs)) ≡ filter (Like q) (r ∷ x ∷ xs)
    by_test true e = refl
    by_test false e =
        ap (λ (l : List Row). cond (Like q x) (x ∷ l) l) e ∙ swap (Like q x) (Like q r) (filter (Like q) xs) refl refl

ordered-rise : (xs : List Row) → Rise (ordered xs)
unfolding ordered
ordered-rise [] = tt
ordered-rise (x ∷ xs) = placed-rise x (ordered xs) (ordered-rise xs)

ordered-like : (q : Row) (xs : List Row) → filter (Like q) (ordered xs) ≡ filter (Like q) xs
unfolding ordered
ordered-like q [] = refl
ordered-like q (x ∷ xs) =
    placed-like x q (ordered xs) ∙ ap (λ (l : List Row). cond (Like q x) (x ∷ l) l) (ordered-like q xs)

-- ---- rows in order rise by their tenths

not_earlier : (x y : Row) → is_before y x ≡ false → x.at ≤ y.at
not_earlier x y h = grind (arith, nat_tests)

none_earlier : (x : Row) (xs : List Row) (j : ℕ) (d : Row) → Above x xs → j < length xs → x.at ≤ (get_or xs j d).at
none_earlier x [] j d h lt = absurd (omega arith)
none_earlier x (y ∷ ys) zero d h lt = not_earlier x y h.0
none_earlier x (y ∷ ys) (suc j) d h lt = none_earlier x ys j d h.1 (omega arith)

climbs : (xs : List Row) → Rise xs → IsNonDecreasingBy (λ (r : Row). r.at) xs
climbs [] h i j d le lt = absurd (omega arith)
climbs (x ∷ xs) h zero zero d le lt = omega arith
climbs (x ∷ xs) h zero (suc j) d le lt = none_earlier x xs j d h.0 (omega arith)
climbs (x ∷ xs) h (suc i) zero d le lt = absurd (omega arith)
climbs (x ∷ xs) h (suc i) (suc j) d le lt = climbs xs h.1 i j d (omega arith) (omega arith)

pub ordered-climbs : (xs : List Row) → IsNonDecreasingBy (λ (r : Row). r.at) (ordered xs)
ordered-climbs xs = climbs (ordered xs) (ordered-rise xs)

-- ---- what std says of a sorted list

rise-from : (xs : List Row) → ((k : ℕ) (d : Row) → suc k < length xs → is_before (get_or xs (suc k) d) (get_or xs k d) ≡ false) → Rise xs
rise-from [] h = tt
rise-from (x ∷ []) h = (tt, tt)
rise-from (x ∷ y ∷ ys) h =
    let first : is_before y x ≡ false = h 0 x (omega arith) in
    let rest : Rise (y ∷ ys) = rise-from (y ∷ ys) (λ k d lt. h (suc k) d (omega arith)) in
    ((first, above_lower x y ys first rest.0), rest)

-- the test of a sort by tenth, code and parameter
abbrev pub key_less : Row → Row → Bool
key_less a b = is_lt (ordering_then (ordering_then (nat_cmp a.at b.at) (nat_cmp a.code b.code)) (nat_cmp a.param b.param))

key_less-is : (a b : Row) → key_less a b ≡ is_before a b
key_less-is a b = grind (arith, nat_tests)

like_by_key : (q x : Row) → ties key_less q x ≡ Like q x
like_by_key q x = ap₂ (λ (a b : Bool). not a && not b) (key_less-is q x) (key_less-is x q)

pub in-order : (xs ys : List Row) → ((k : ℕ) (d : Row) → 0 ≤ k → k + 1 < length ys → key_less (get_or ys (k + 1) d) (get_or ys k d) ≡ false)
    → ((q : Row) → filter (ties key_less q) ys ≡ filter (ties key_less q) xs) → ys ≡ ordered xs
in-order xs ys sorted stable =
    let rise : Rise ys = rise-from ys (λ k d lt. sym (key_less-is (get_or ys (suc k) d) (get_or ys k d)) ∙ (rw (add-one k) at (sorted k d (omega arith) (omega arith)))) in
    same_rising ys (ordered xs) rise (ordered-rise xs)
    (λ q. sym (filter_same _ _ ys (like_by_key q)) ∙ stable q ∙ filter_same _ _ xs (like_by_key q) ∙ sym (ordered-like q xs))
