-- Facts about the elements of a list, by recursion and by their places.
use Rattle.std.proofs.Common.{◌≡◌, suc, Bool, true, false, List, [], ◌∷◌, ◌++◌, Any, All, AllPairs, refl, arith}
use Rattle.std.specs.List.{AllByRecursion, list_any, list_all}
use Rattle.std.proofs.lemmas.Bool.{and_parts}
use Rattle.std.proofs.lemmas.List.Elements.{All-head, All-tail, All-cons, All-nil}
use Rattle.ring_config.specs.Walk.{EachPair, NoneRepeats}

module _ {X : Type 0} where
  pub by_recursion : (P : X → Type 0) (xs : List X) → All P xs → AllByRecursion P xs
  by_recursion P [] h = tt
  by_recursion P (x ∷ xs) h = (All-head P x xs h, by_recursion P xs (All-tail P x xs h))

  pairs_first : (R : X → X → Type 0) (x : X) (xs : List X) → AllPairs R (x ∷ xs) → All (R x) xs
  pairs_first R x xs h k d lt = h 0 (suc k) d (omega arith) (omega arith)

  pairs_rest : (R : X → X → Type 0) (x : X) (xs : List X) → AllPairs R (x ∷ xs) → AllPairs R xs
  pairs_rest R x xs h i j d lt le = h (suc i) (suc j) d (omega arith) (omega arith)

  -- the converse of `pairs_at`
  pub pairs_by_recursion : (R : X → X → Type 0) (xs : List X) → AllPairs R xs → EachPair R xs
  pairs_by_recursion R [] h = tt
  pairs_by_recursion R (x ∷ xs) h = (by_recursion (R x) xs (pairs_first R x xs h), pairs_by_recursion R xs (pairs_rest R x xs h))

  pub pairs_weaker_at : (R S : X → X → Type 0) → ((x y : X) → R x y → S x y) → (xs : List X) → AllPairs R xs → AllPairs S xs
  pairs_weaker_at R S f xs h i j d lt le = f _ _ (h i j d lt le)

  pub all_weaker_at : (P Q : X → Type 0) → ((x : X) → P x → Q x) → (xs : List X) → All P xs → All Q xs
  all_weaker_at P Q f xs h k d lt = f _ (h k d lt)

  in_middle : (P : X → Type 0) (xs : List X) (a : X) (rest : List X) → AllByRecursion P (xs ++ a ∷ rest) → P a
  in_middle P [] a rest h = h.0
  in_middle P (x ∷ xs) a rest h = in_middle P xs a rest h.1

  -- an element repeats none before it
  pub none_before_it : (r : X → X → Bool) (xs : List X) (y : X) (ys : List X) → NoneRepeats r (xs ++ y ∷ ys) → list_any (λ x. r x y) xs ≡ false
  none_before_it r [] y ys h = refl
  none_before_it r (x ∷ xs) y ys h = rw (in_middle (λ z. r x z ≡ false) xs y ys h.0, none_before_it r xs y ys h.1) refl

  pub all_of_test : (p : X → Bool) (xs : List X) → list_all p xs ≡ true → All (λ x. p x ≡ true) xs
  all_of_test p [] h = All-nil (λ x. p x ≡ true)
  all_of_test p (x ∷ xs) h = let b = and_parts (p x) (list_all p xs) h in All-cons (λ y. p y ≡ true) x xs b.0 (all_of_test p xs b.1)

  pub test_of_all : (p : X → Bool) (xs : List X) → All (λ x. p x ≡ true) xs → list_all p xs ≡ true
  test_of_all p [] h = refl
  test_of_all p (x ∷ xs) h = rw (All-head (λ y. p y ≡ true) x xs h, test_of_all p xs (All-tail (λ y. p y ≡ true) x xs h)) refl

  pub any_weaker : (P Q : X → Type 0) → ((x : X) → P x → Q x) → (xs : List X) → Any P xs → Any Q xs
  any_weaker P Q f xs h = (h.0, h.1, h.2, h.3, f h.1 h.4)
