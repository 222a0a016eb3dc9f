-- Loops over the numbers 1 to 16, and sets of colours.
use Rattle.std.proofs.Common.{suc, ◌≡◌, refl, ap, sym, ◌∙◌, ℕ, ◌+◌, ◌-◌, ◌<◌, ◌≤◌, List, [], ◌++◌, flat_map, append_assoc, append-nil, arith}
use Rattle.std.specs.List.{range_with_len}
use Rattle.rule_audit.specs.Rules.{each_number}

-- what f gives for the numbers from n to 16
unfoldable pub numbers_left : {A : Type 0} → (ℕ → List A) → ℕ → List A
numbers_left f n = flat_map f (range_with_len n (17 - n))

pub numbers_all : {A : Type 0} → (f : ℕ → List A) (out : List A) → out ++ numbers_left f 1 ≡ out ++ each_number f
unfolding numbers_left each_number
numbers_all f out = refl

left_more : {A : Type 0} → (f : ℕ → List A) (n k : ℕ) → 17 - n ≡ suc k → numbers_left f n ≡ f n ++ flat_map f (range_with_len (n + 1) k)
unfolding numbers_left
left_more {A} f n k e = ap (λ (m : ℕ). flat_map f (range_with_len n m)) e

left_same : {A : Type 0} → (f : ℕ → List A) (n k : ℕ) → 17 - n ≡ k → numbers_left f n ≡ flat_map f (range_with_len n k)
unfolding numbers_left
left_same {A} f n k e = ap (λ (m : ℕ). flat_map f (range_with_len n m)) e

pub number_turn : {A : Type 0} → (f : ℕ → List A) (n : ℕ) (out new whole : List A) → n < 17 → out ++ numbers_left f n ≡ whole → new ≡ out ++ f n → new ++ numbers_left f (n + 1) ≡ whole
number_turn {A} f n out new whole lt inv e =
    let rest : List A = flat_map f (range_with_len (n + 1) (16 - n)) in
    let here : numbers_left f n ≡ f n ++ rest = left_more f n (16 - n) (omega arith) in
    let next : numbers_left f (n + 1) ≡ rest = left_same f (n + 1) (16 - n) (omega arith) in
    rw (e, next, append_assoc) (ap (λ (xs : List A). out ++ xs) (sym here) ∙ inv)

pub numbers_over : {A : Type 0} → (f : ℕ → List A) (n : ℕ) (out whole : List A) → 17 ≤ n → out ++ numbers_left f n ≡ whole → out ≡ whole
numbers_over {A} f n out whole le inv =
    let none : numbers_left f n ≡ [] = left_same f n 0 (omega arith) in
    let here : out ++ [] ≡ whole = ap (λ (xs : List A). out ++ xs) (sym none) ∙ inv in
    rw append-nil at here
