-- Numbers of one list after another.
use Rattle.std.proofs.Common.{◌≡◌, ℕ, ◌+◌, ◌^◌, ◌<◌, Bool, cond, List, [], ◌∷◌, ◌++◌, Option, Some, None, length, sum, refl, ap, sym, ◌∙◌, arith, length-append}
use Rattle.std.specs.List.{count_by}
use Rattle.std.proofs.lemmas.List.Sums.{sum_by-append}
use Rattle.hour_sweep.specs.Sums.{capped, lesser, greater, least, greatest}

pub capped-add : (a b : ℕ) → capped (capped a + capped b) ≡ capped (a + b)
unfolding capped
capped-add a b = omega arith

pub capped_assoc : (a b c : ℕ) → capped (capped (a + b) + c) ≡ capped (a + capped (b + c))
unfolding capped
capped_assoc a b c = omega arith

pub capped_none : (a : ℕ) → capped (capped a + 0) ≡ capped a
unfolding capped
capped_none a = omega arith

pub capped_small : (n : ℕ) → n < 2 ^ 64 → capped n ≡ n
unfolding capped
capped_small n lt = omega arith

pub length-add : {X : Type 0} (xs ys : List X) → capped (length (xs ++ ys)) ≡ capped (capped (length xs) + capped (length ys))
length-add xs ys = ap (λ n. capped n) (length-append xs ys) ∙ sym (capped-add (length xs) (length ys))

pub sum-add : (xs ys : List ℕ) → capped (sum (xs ++ ys)) ≡ capped (capped (sum xs) + capped (sum ys))
sum-add xs ys = ap (λ n. capped n) (sum_by-append (λ x. x) xs ys) ∙ sym (capped-add (sum xs) (sum ys))

pub count-add : {X : Type 0} (p : X → Bool) (xs ys : List X) → capped (count_by p (xs ++ ys)) ≡ capped (capped (count_by p xs) + capped (count_by p ys))
count-add p xs ys = ap (λ n. capped n) (sum_by-append (λ x. cond (p x) 1 0) xs ys) ∙ sym (capped-add (count_by p xs) (count_by p ys))

pub lesser_assoc : (a b c : Option ℕ) → lesser (lesser a b) c ≡ lesser a (lesser b c)
lesser_assoc None b c = refl
lesser_assoc (Some x) None c = refl
lesser_assoc (Some x) (Some y) None = refl
lesser_assoc (Some x) (Some y) (Some z) = ap (λ n. Some n) (omega arith)

pub greater_assoc : (a b c : Option ℕ) → greater (greater a b) c ≡ greater a (greater b c)
greater_assoc None b c = refl
greater_assoc (Some x) None c = refl
greater_assoc (Some x) (Some y) None = refl
greater_assoc (Some x) (Some y) (Some z) = ap (λ n. Some n) (omega arith)

pub least-append : (xs ys : List ℕ) → least (xs ++ ys) ≡ lesser (least xs) (least ys)
least-append [] ys = refl
least-append (x ∷ xs) ys = ap (λ o. lesser (Some x) o) (least-append xs ys) ∙ sym (lesser_assoc (Some x) (least xs) (least ys))

pub greatest-append : (xs ys : List ℕ) → greatest (xs ++ ys) ≡ greater (greatest xs) (greatest ys)
greatest-append [] ys = refl
greatest-append (x ∷ xs) ys = ap (λ o. greater (Some x) o) (greatest-append xs ys) ∙ sym (greater_assoc (Some x) (greatest xs) (greatest ys))
