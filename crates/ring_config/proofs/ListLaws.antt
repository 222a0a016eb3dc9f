-- Facts about each element of a list, and about each pair.
use Rattle.std.proofs.Common.{◌≡◌, zero, suc, ◌<◌, Bool, true, false, cond, List, [], ◌∷◌, ◌++◌, length, filter, All, AllPairs, arith}
use Rattle.std.specs.List.{AllByRecursion, list_any}
use Rattle.std.proofs.lemmas.Bool.{or_parts}
use Rattle.ring_config.specs.Walk.{EachPair, NoneRepeats}

module _ {X : Type 0} where
  pub all_weaker : (P Q : X → Type 0) → ((x : X) → P x → Q x) → (xs : List X) → AllByRecursion P xs → AllByRecursion Q xs
  all_weaker P Q f [] h = tt
  all_weaker P Q f (x ∷ xs) h = (f x h.0, all_weaker P Q f xs h.1)

  pub all_append : (P : X → Type 0) (xs ys : List X) → AllByRecursion P xs → AllByRecursion P ys → AllByRecursion P (xs ++ ys)
  all_append P [] ys h k = k
  all_append P (x ∷ xs) ys h k = (h.0, all_append P xs ys h.1 k)

  pub all_push : (P : X → Type 0) (xs : List X) (y : X) → AllByRecursion P xs → P y → AllByRecursion P (xs ++ y ∷ [])
  all_push P xs y h p = all_append P xs (y ∷ []) h (p, tt)

  pub all_at : (P : X → Type 0) (xs : List X) → AllByRecursion P xs → All P xs
  all_at P [] h k d lt = absurd (omega arith)
  all_at P (x ∷ xs) h zero d lt = h.0
  all_at P (x ∷ xs) h (suc k) d lt = let le : k < length xs = omega arith in all_at P xs h.1 k d le

  pub pairs_at : (R : X → X → Type 0) (xs : List X) → EachPair R xs → AllPairs R xs
  pairs_at R [] h i j d lt le = absurd (omega arith)
  pairs_at R (x ∷ xs) h i zero d lt le = absurd (omega arith)
  pairs_at R (x ∷ xs) h zero (suc j) d lt le = let e : j < length xs = omega arith in all_at (R x) xs h.0 j d e
  pairs_at R (x ∷ xs) h (suc i) (suc j) d lt le = let e : j < length xs = omega arith in let f : i < j = omega arith in pairs_at R xs h.1 i j d f e

  pub pairs_weaker : (R S : X → X → Type 0) → ((x y : X) → R x y → S x y) → (xs : List X) → EachPair R xs → EachPair S xs
  pairs_weaker R S f [] h = tt
  pairs_weaker R S f (x ∷ xs) h = (all_weaker (R x) (S x) (f x) xs h.0, pairs_weaker R S f xs h.1)

  pub pairs_append : (R : X → X → Type 0) (xs ys : List X) → EachPair R xs → EachPair R ys → AllByRecursion (λ x. AllByRecursion (R x) ys) xs → EachPair R (xs ++ ys)
  pairs_append R [] ys h k b = k
  pairs_append R (x ∷ xs) ys h k b = (all_append (R x) xs ys h.0 b.0, pairs_append R xs ys h.1 k b.1)

  -- no earlier one is the new one
  none_before : (r : X → X → Bool) (xs : List X) (y : X) → list_any (λ x. r x y) xs ≡ false → AllByRecursion (λ x. AllByRecursion (λ z. r x z ≡ false) (y ∷ [])) xs
  none_before r [] y e = tt
  none_before r (x ∷ xs) y e = let p = or_parts (r x y) (list_any (λ z. r z y) xs) e in ((p.0, tt), none_before r xs y p.1)

  pub none_push : (r : X → X → Bool) (xs : List X) (y : X) → NoneRepeats r xs → list_any (λ x. r x y) xs ≡ false → NoneRepeats r (xs ++ y ∷ [])
  none_push r xs y h e = pairs_append (λ x z. r x z ≡ false) xs (y ∷ []) h (tt, tt) (none_before r xs y e)

  all_cond : (P : X → Type 0) (b : Bool) (x : X) (xs : List X) → P x → AllByRecursion P xs → AllByRecursion P (cond b (x ∷ xs) xs)
  all_cond P true x xs p h = (p, h)
  all_cond P false x xs p h = h

  pub all_filter : (P : X → Type 0) (p : X → Bool) (xs : List X) → AllByRecursion P xs → AllByRecursion P (filter p xs)
  all_filter P p [] h = tt
  all_filter P p (x ∷ xs) h = all_cond P (p x) x (filter p xs) h.0 (all_filter P p xs h.1)

  pairs_cond : (R : X → X → Type 0) (b : Bool) (x : X) (xs : List X) → AllByRecursion (R x) xs → EachPair R xs → EachPair R (cond b (x ∷ xs) xs)
  pairs_cond R true x xs a h = (a, h)
  pairs_cond R false x xs a h = h

  pub pairs_filter : (R : X → X → Type 0) (p : X → Bool) (xs : List X) → EachPair R xs → EachPair R (filter p xs)
  pairs_filter R p [] h = tt
  pairs_filter R p (x ∷ xs) h = pairs_cond R (p x) x (filter p xs) (all_filter (R x) p xs h.0) (pairs_filter R p xs h.1)
