-- Lists cut by tests.
use Rattle.std.proofs.Common.{◌≡◌, ℕ, zero, suc, ◌+◌, ◌<◌, ◌≤◌, Bool, true, false, not, ◌&&◌, List, [], ◌∷◌, ◌++◌, Option, get_or, length, take, drop, refl, ap, sym, ◌∙◌, arith}
use Rattle.std.specs.Prelude.{All}
use Rattle.std.specs.List.{filter, filter_map, AllWithin}
use Rattle.std.specs.List.Sorted.{IsPartitionPoint}
use Rattle.std.proofs.lemmas.List.Elements.{All-head, All-tail, filter_map-append}
use Rattle.std.proofs.lemmas.List.{take_more}

pub filter_same : {X : Type 0} (p q : X → Bool) (xs : List X) → All (λ x. p x ≡ q x) xs → filter p xs ≡ filter q xs
filter_same p q [] h = refl
filter_same p q (x ∷ xs) h = rw (All-head (λ z. p z ≡ q z) x xs h, filter_same p q xs (All-tail (λ z. p z ≡ q z) x xs h)) refl

pub filter_none : {X : Type 0} (p : X → Bool) (xs : List X) → All (λ x. p x ≡ false) xs → filter p xs ≡ []
filter_none p [] h = refl
filter_none p (x ∷ xs) h = rw (All-head (λ z. p z ≡ false) x xs h) (filter_none p xs (All-tail (λ z. p z ≡ false) x xs h))

pub and_same : (s k t : Bool) → (t ≡ true → s ≡ k) → (s && t) ≡ (k && t)
and_same s k true h = ap (λ v. v && true) (h refl)
and_same true true false h = refl
and_same true false false h = refl
and_same false true false h = refl
and_same false false false h = refl

-- a partition point cuts a list as its test does

all_true : {X : Type 0} (p : X → Bool) (xs : List X) → AllWithin (λ y. p y ≡ false) xs 0 (length xs) → (filter p xs ≡ []) × (filter (λ y. not (p y)) xs ≡ xs)
all_true p [] h = (refl, refl)
all_true p (x ∷ xs) h =
    let here : p x ≡ false = h 0 x (omega arith) (omega arith) in
    let more = all_true p xs (λ k d lo hi. h (suc k) d (omega arith) (omega arith)) in
    rw here (more.0, ap (λ zs. x ∷ zs) more.1)

pub cut_at : {X : Type 0} (p : X → Bool) (xs : List X) (i : ℕ) → i ≤ length xs → IsPartitionPoint (λ y. p y ≡ true) (λ y. p y ≡ false) xs i → (take i xs ≡ filter p xs) × (drop i xs ≡ filter (λ y. not (p y)) xs)
cut_at p xs zero le h = let n = all_true p xs h.1 in (sym n.0, sym n.1)
cut_at p [] (suc i) le h = absurd (omega arith)
cut_at p (x ∷ xs) (suc i) le h =
    let here : p x ≡ true = h.0 0 x (omega arith) (omega arith) in
    let more = cut_at p xs i (omega arith) ((λ k d lo hi. h.0 (suc k) d (omega arith) (omega arith)), (λ k d lo hi. h.1 (suc k) d (omega arith) (omega arith))) in
    rw here (ap (λ zs. x ∷ zs) more.0, more.1)

-- one element more
pub kept_more : {X Y : Type 0} (h : X → Option Y) (xs : List X) (i : ℕ) (d : X) (old new : List Y) → i < length xs → old ≡ filter_map h (take i xs) → new ≡ old ++ filter_map h (get_or xs i d ∷ []) → new ≡ filter_map h (take (i + 1) xs)
kept_more h xs i d old new lt e n =
    n
    ∙ ap (λ ys. ys ++ filter_map h (get_or xs i d ∷ [])) e
    ∙ sym (filter_map-append h (take i xs) (get_or xs i d ∷ []))
    ∙ ap (λ zs. filter_map h zs) (sym (take_more xs i d lt))
