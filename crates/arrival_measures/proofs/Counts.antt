-- Counts of rows at some tenths.
use Rattle.std.proofs.Common.{◌≡◌, ℕ, ◌+◌, ◌<◌, ◌≤◌, Bool, true, false, ◌&&◌, cond, List, [], ◌∷◌, ◌++◌, refl, ap, sym, ◌∙◌, arith, filter, ltb, leb, inl, inr, length}
use Rattle.std.specs.Prelude.{All, count_by}
use Rattle.std.proofs.lemmas.List.Sums.{sum_by-cons, sum_by_push, length-filter}
use Rattle.std.proofs.lemmas.Bool.{cases_lt, le-leb, lt-leb, lt-ltb, le-ltb}
use Rattle.sig_base.specs.declared.values.Row.{Row}
use Rattle.sig_base.proofs.Common.{and_false}
use Rattle.arrival_measures.specs.Arrivals.{is_on, rows_within}
use Rattle.arrival_measures.specs.Green.{arrivals_in, green_arrivals_in, shows_green}
use Rattle.arrival_measures.proofs.Within.{filter_same, within_past, within_on, within_off, within_at, within_below, shows_off}

count_cons : (q : Row → Bool) (x : Row) (xs : List Row) → count_by q (x ∷ xs) ≡ cond (q x) 1 0 + count_by q xs
count_cons q x xs = sum_by-cons (λ z. cond (q z) 1 0) x xs

pub count_same : (P : Row → Type 0) (p q : Row → Bool) (xs : List Row) → ((x : Row) → P x → p x ≡ q x) → All P xs → count_by p xs ≡ count_by q xs
count_same P p q xs e h = sym (length-filter p xs) ∙ ap (λ zs. length zs) (filter_same P p q xs e h) ∙ length-filter q xs

pub and_true : (b : Bool) → (b && true) ≡ b
and_true true = refl
and_true false = refl

count_none : (xs : List Row) → count_by (λ x. false) xs ≡ 0
count_none [] = refl
count_none (x ∷ xs) = count_cons (λ z. false) x xs ∙ ap (λ n. 0 + n) (count_none xs)

abbrev Any : Row → Type 0
Any x = Unit {0}

count_and : (q : Row → Bool) (v : Bool) (xs : List Row) → count_by (λ x. q x && v) xs ≡ cond v (count_by q xs) 0
count_and q true xs = count_same Any (λ x. q x && true) q xs (λ x h. and_true (q x)) (λ k x lt. tt)
count_and q false xs = count_same Any (λ x. q x && false) (λ x. false) xs (λ x h. and_false (q x)) (λ k x lt. tt) ∙ count_none xs

-- of rows at one tenth, all or none have a tenth that passes
pub count_at : (q : Row → Bool) (show : ℕ → Bool) (u : ℕ) (xs : List Row) → All (λ x. x.at ≡ u) xs → count_by (λ x. q x && show x.at) xs ≡ cond (show u) (count_by q xs) 0
count_at q show u xs h = count_same (λ x. x.at ≡ u) (λ x. q x && show x.at) (λ x. q x && show u) xs (λ x e. ap (λ t. q x && show t) e) h ∙ count_and q (show u) xs

-- the rows at some tenths are those at the first of them and those at the others

part_off : (q : Row → Bool) (x : Row) (f g h : List Row) (b c e : Bool) → b ≡ false → c ≡ false → e ≡ false → count_by q f ≡ count_by q g + count_by q h
    → count_by q (cond b (x ∷ f) f) ≡ count_by q (cond c (x ∷ g) g) + count_by q (cond e (x ∷ h) h)
part_off q x f g h b c e eb ec ee ih = rw (eb, ec, ee) ih

part_first : (q : Row → Bool) (x : Row) (f g h : List Row) (b c e : Bool) → b ≡ true → c ≡ true → e ≡ false → count_by q f ≡ count_by q g + count_by q h
    → count_by q (cond b (x ∷ f) f) ≡ count_by q (cond c (x ∷ g) g) + count_by q (cond e (x ∷ h) h)
part_first q x f g h b c e eb ec ee ih = rw (eb, ec, ee) (let l = count_cons q x f in let r = count_cons q x g in omega (arith, l, r, ih))

part_last : (q : Row → Bool) (x : Row) (f g h : List Row) (b c e : Bool) → b ≡ true → c ≡ false → e ≡ true → count_by q f ≡ count_by q g + count_by q h
    → count_by q (cond b (x ∷ f) f) ≡ count_by q (cond c (x ∷ g) g) + count_by q (cond e (x ∷ h) h)
part_last q x f g h b c e eb ec ee ih = rw (eb, ec, ee) (let l = count_cons q x f in let r = count_cons q x h in omega (arith, l, r, ih))

is_in : (x : Row) (a b : ℕ) → a ≤ x.at → x.at < b → (leb a x.at && ltb x.at b) ≡ true
is_in x a b le lt = rw (le-leb a x.at le) (lt-ltb x.at b lt)

is_before : (x : Row) (a b : ℕ) → x.at < a → (leb a x.at && ltb x.at b) ≡ false
is_before x a b lt = ap (λ v. v && ltb x.at b) (lt-leb a x.at lt)

is_past : (x : Row) (a b : ℕ) → a ≤ x.at → b ≤ x.at → (leb a x.at && ltb x.at b) ≡ false
is_past x a b lo le = rw (le-leb a x.at lo) (le-ltb x.at b le)

pub count_parts : (q : Row → Bool) (a u v : ℕ) (xs : List Row) → a ≤ u → u ≤ v → count_by q (rows_within a v xs) ≡ count_by q (rows_within a u xs) + count_by q (rows_within u v xs)
count_parts q a u v [] le up = refl
count_parts q a u v (x ∷ xs) le up =
    let ih = count_parts q a u v xs le up in
    let f = rows_within a v xs in let g = rows_within a u xs in let h = rows_within u v xs in
    let b = leb a x.at && ltb x.at v in let c = leb a x.at && ltb x.at u in let e = leb u x.at && ltb x.at v in
    elim (cases_lt x.at a) [
      | inl lt ↦ part_off q x f g h b c e (is_before x a v lt) (is_before x a u lt) (is_before x u v (omega arith)) ih
      | inr lo ↦ elim (cases_lt x.at u) [
        | inl lt ↦ part_first q x f g h b c e (is_in x a v lo (omega arith)) (is_in x a u lo lt) (is_before x u v lt) ih
        | inr at ↦ elim (cases_lt x.at v) [
          | inl lt ↦ part_last q x f g h b c e (is_in x a v lo lt) (is_past x a u lo at) (is_in x u v at lt) ih
          | inr past ↦ part_off q x f g h b c e (is_past x a v lo past) (is_past x a u lo at) (is_past x u v at past) ih
        ]
      ]
    ]

-- arrivals

pub arrivals_count : (d a b : ℕ) (xs : List Row) → arrivals_in d a b xs ≡ count_by (is_on d) (rows_within a b xs)
arrivals_count d a b xs = length-filter (is_on d) (rows_within a b xs)

count_last : (q : Row → Bool) (u v : ℕ) (xs : List Row) → u < v → All (λ x. x.at ≤ u) xs → count_by q (rows_within u v xs) ≡ count_by q (rows_within u (u + 1) xs)
count_last q u v xs lt h = ap (λ zs. count_by q zs) (within_past u u v (u + 1) xs lt (omega arith) h)

-- up to tenth v, where the rows end at tenth u
pub arrivals_on : (d a u v : ℕ) (xs : List Row) → a ≤ u → u < v → All (λ x. x.at ≤ u) xs → arrivals_in d a v xs ≡ arrivals_in d a u xs + arrivals_in d u (u + 1) xs
arrivals_on d a u v xs le lt h =
    let whole = arrivals_count d a v xs in
    let first = arrivals_count d a u xs in
    let last = arrivals_count d u (u + 1) xs in
    let parts = count_parts (is_on d) a u v xs le (omega arith) in
    let same = count_last (is_on d) u v xs lt h in
    omega (arith, whole, first, last, parts, same)

pub green_on : (p d a u v : ℕ) (xs : List Row) → a ≤ u → u < v → All (λ x. x.at ≤ u) xs → green_arrivals_in p d a v xs ≡ green_arrivals_in p d a u xs + cond (shows_green p a xs u) (arrivals_in d u (u + 1) xs) 0
green_on p d a u v xs le lt h =
    let show : ℕ → Bool = shows_green p a xs in
    count_parts (λ x. is_on d x && show x.at) a u v xs le (omega arith)
    ∙ ap (λ n. green_arrivals_in p d a u xs + n)
    (count_at (is_on d) show u (rows_within u v xs) (within_at u v xs h)
    ∙ ap (λ n. cond (show u) n 0) (count_last (is_on d) u v xs lt h ∙ sym (arrivals_count d u (u + 1) xs)))

-- one row more at tenth u

pub arrivals_off : (d a : ℕ) (xs : List Row) (x : Row) → arrivals_in d a x.at (xs ++ x ∷ []) ≡ arrivals_in d a x.at xs
arrivals_off d a xs x = ap (λ zs. length (filter (is_on d) zs)) (within_off a x.at xs x (omega arith))

pub arrivals_row : (d : ℕ) (xs : List Row) (x : Row) → arrivals_in d x.at (x.at + 1) (xs ++ x ∷ []) ≡ arrivals_in d x.at (x.at + 1) xs + cond (is_on d x) 1 0
arrivals_row d xs x =
    arrivals_count d x.at (x.at + 1) (xs ++ x ∷ [])
    ∙ ap (λ zs. count_by (is_on d) zs) (within_on x.at (x.at + 1) xs x (omega arith) (omega arith))
    ∙ sum_by_push (λ z. cond (is_on d z) 1 0) (rows_within x.at (x.at + 1) xs) x
    ∙ ap (λ n. n + cond (is_on d x) 1 0) (sym (arrivals_count d x.at (x.at + 1) xs))

pub green_off : (p d a : ℕ) (xs : List Row) (x : Row) → green_arrivals_in p d a x.at (xs ++ x ∷ []) ≡ green_arrivals_in p d a x.at xs
green_off p d a xs x =
    ap (λ zs. count_by (λ z. is_on d z && shows_green p a (xs ++ x ∷ []) z.at) zs) (within_off a x.at xs x (omega arith))
    ∙ count_same (λ z. z.at < x.at) (λ z. is_on d z && shows_green p a (xs ++ x ∷ []) z.at) (λ z. is_on d z && shows_green p a xs z.at) (rows_within a x.at xs)
    (λ z lt. ap (λ v. is_on d z && v) (shows_off p a z.at xs x lt)) (within_below a x.at xs)
