-- The rows at some tenths, and what the phase shows after them.
use Rattle.std.proofs.Common.{◌≡◌, ℕ, ◌+◌, ◌<◌, ◌≤◌, Bool, true, false, ◌&&◌, cond, List, [], ◌∷◌, ◌++◌, refl, ap, sym, ◌∙◌, arith, filter, ltb, leb}
use Rattle.std.specs.Prelude.{All}
use Rattle.std.proofs.lemmas.List.{append-nil}
use Rattle.std.proofs.lemmas.List.Elements.{All-head, All-tail, All-filter, filter-append, filter_passes}
use Rattle.std.proofs.lemmas.Bool.{le-leb, lt-leb, lt-ltb, le-ltb, leb-true, ltb-true, and_parts, and_right}
use Rattle.sig_base.specs.declared.values.Row.{Row}
use Rattle.arrival_measures.specs.Arrivals.{rows_within}
use Rattle.arrival_measures.specs.Green.{green_after, greens, shows_green}

pub filter_same : (P : Row → Type 0) (p q : Row → Bool) (xs : List Row) → ((x : Row) → P x → p x ≡ q x) → All P xs → filter p xs ≡ filter q xs
filter_same P p q [] e h = refl
filter_same P p q (x ∷ xs) e h = rw (e x (All-head P x xs h), filter_same P p q xs e (All-tail P x xs h)) refl

pub filter_none : (P : Row → Type 0) (p : Row → Bool) (xs : List Row) → ((x : Row) → P x → p x ≡ false) → All P xs → filter p xs ≡ []
filter_none P p [] e h = refl
filter_none P p (x ∷ xs) e h = rw (e x (All-head P x xs h)) (filter_none P p xs e (All-tail P x xs h))

-- rows up to tenth u have no others at later ones
pub within_past : (a u v w : ℕ) (xs : List Row) → u < v → u < w → All (λ x. x.at ≤ u) xs → rows_within a v xs ≡ rows_within a w xs
within_past a u v w xs lv lw h = filter_same (λ x. x.at ≤ u) (λ x. leb a x.at && ltb x.at v) (λ x. leb a x.at && ltb x.at w) xs
    (λ x le. ap (λ b. leb a x.at && b) (lt-ltb x.at v (omega arith) ∙ sym (lt-ltb x.at w (omega arith)))) h

pub within_before : (a u v w : ℕ) (xs : List Row) → u ≤ v → u ≤ w → All (λ x. x.at < u) xs → rows_within a v xs ≡ rows_within a w xs
within_before a u v w xs lv lw h = filter_same (λ x. x.at < u) (λ x. leb a x.at && ltb x.at v) (λ x. leb a x.at && ltb x.at w) xs
    (λ x le. ap (λ b. leb a x.at && b) (lt-ltb x.at v (omega arith) ∙ sym (lt-ltb x.at w (omega arith)))) h

pub within_none : (u v : ℕ) (xs : List Row) → All (λ x. x.at < u) xs → rows_within u v xs ≡ []
within_none u v xs h = filter_none (λ x. x.at < u) (λ x. leb u x.at && ltb x.at v) xs
    (λ x le. ap (λ b. b && ltb x.at v) (lt-leb u x.at le)) h

empty_within : (x : Row) (a b : ℕ) → b ≤ a → (leb a x.at && ltb x.at b) ≡ false
empty_within x a b le = elim (leb a x.at) as (λ v. leb a x.at ≡ v → (v && ltb x.at b) ≡ false) [
  | true ↦ λ e. let at = leb-true a x.at e in le-ltb x.at b (omega arith)
  | false ↦ λ e. refl
] refl

pub within_empty : (a b : ℕ) (xs : List Row) → b ≤ a → rows_within a b xs ≡ []
within_empty a b [] le = refl
within_empty a b (x ∷ xs) le = rw (empty_within x a b le) (within_empty a b xs le)

-- one row more
pub within_on : (a b : ℕ) (xs : List Row) (x : Row) → a ≤ x.at → x.at < b → rows_within a b (xs ++ x ∷ []) ≡ rows_within a b xs ++ x ∷ []
within_on a b xs x le lt = filter-append (λ z. leb a z.at && ltb z.at b) xs (x ∷ []) ∙ rw (le-leb a x.at le, lt-ltb x.at b lt) refl

pub within_off : (a b : ℕ) (xs : List Row) (x : Row) → b ≤ x.at → rows_within a b (xs ++ x ∷ []) ≡ rows_within a b xs
within_off a b xs x le =
    filter-append (λ z. leb a z.at && ltb z.at b) xs (x ∷ [])
    ∙ ap (λ zs. rows_within a b xs ++ zs) (ap (λ v. cond v (x ∷ []) []) (and_right (leb a x.at) (ltb x.at b) (le-ltb x.at b le)))
    ∙ append-nil (rows_within a b xs)

-- rows up to tenth u, and from it on, are at u
pub within_at : (u v : ℕ) (xs : List Row) → All (λ x. x.at ≤ u) xs → All (λ x. x.at ≡ u) (rows_within u v xs)
within_at u v xs h =
    let below = All-filter (λ x. leb u x.at && ltb x.at v) (λ x. x.at ≤ u) xs h in
    let passes = filter_passes (λ (x : Row). leb u x.at && ltb x.at v) xs in
    λ k x lt. let lo = leb-true u _ (and_parts _ _ (passes k x lt)).0 in let up = below k x lt in omega arith

pub within_below : (a b : ℕ) (xs : List Row) → All (λ x. x.at < b) (rows_within a b xs)
within_below a b xs =
    let passes = filter_passes (λ (x : Row). leb a x.at && ltb x.at b) xs in
    λ k x lt. ltb-true _ b (and_parts _ _ (passes k x lt)).1

pub greens-push : (p : ℕ) (g : Bool) (xs : List Row) (x : Row) → greens p g (xs ++ x ∷ []) ≡ green_after p x (greens p g xs)
greens-push p g [] x = refl
greens-push p g (y ∷ xs) x = greens-push p (green_after p y g) xs x

-- what the phase shows stays, with no rows
pub shows_on : (p a u v : ℕ) (xs : List Row) → u ≤ v → All (λ x. x.at ≤ u) xs → shows_green p a xs v ≡ shows_green p a xs u
unfolding shows_green
shows_on p a u v xs le h = ap (λ zs. greens p false zs) (within_past a u (v + 1) (u + 1) xs (omega arith) (omega arith) h)

-- a later row changes nothing
pub shows_off : (p a t : ℕ) (xs : List Row) (x : Row) → t < x.at → shows_green p a (xs ++ x ∷ []) t ≡ shows_green p a xs t
unfolding shows_green
shows_off p a t xs x lt = ap (λ zs. greens p false zs) (within_off a (t + 1) xs x (omega arith))

pub shows_row : (p a : ℕ) (xs : List Row) (x : Row) → a ≤ x.at → shows_green p a (xs ++ x ∷ []) x.at ≡ green_after p x (shows_green p a xs x.at)
unfolding shows_green
shows_row p a xs x le = ap (λ zs. greens p false zs) (within_on a (x.at + 1) xs x le (omega arith)) ∙ greens-push p false (rows_within a (x.at + 1) xs) x
