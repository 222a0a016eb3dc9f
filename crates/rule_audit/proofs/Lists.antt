-- What the numbers 1 to 16 and the items of a list give, one after another.
use Rattle.std.proofs.Common.{suc, zero, ◌≡◌, refl, subst, inl, inr, ℕ, ◌+◌, ◌*◌, ◌≤◌, Bool, true, false, ◌||◌, ◌==◌, if◌then◌else◌, List, [], ◌∷◌, length, get_or, flat_map, Some, length-append, arith}
use Rattle.std.specs.List.{All, list_any, range_with_len, slice_get}
use Rattle.std.proofs.lemmas.Bool.{cases_Bool, eqb-true, or_right}
use Rattle.std.proofs.lemmas.List.Elements.{All-nil, All-cons, All-append, All-head, All-tail, All-weaker}
use Rattle.sig_base.specs.Numbers.{has_number}
use Rattle.rule_audit.specs.Rules.{each_number}

all_range : {X : Type 0} (P : X → Type 0) (f : ℕ → List X) (a n : ℕ) → ((k : ℕ) → a ≤ k → All P (f k)) → All P (flat_map f (range_with_len a n))
all_range P f a zero h = All-nil P
all_range P f a (suc n) h = All-append P (f a) (flat_map f (range_with_len (a + 1) n)) (h a (omega arith)) (all_range P f (a + 1) n (λ k le. h k (omega arith)))

pub all_numbers : {X : Type 0} (P : X → Type 0) (f : ℕ → List X) → ((k : ℕ) → 1 ≤ k → All P (f k)) → All P (each_number f)
unfolding each_number
all_numbers P f h = all_range P f 1 16 h

pub all_flat : {X Y : Type 0} (P : Y → Type 0) (Q : X → Type 0) (f : X → List Y) (xs : List X) → All Q xs → ((x : X) → Q x → All P (f x)) → All P (flat_map f xs)
all_flat P Q f [] a h = All-nil P
all_flat P Q f (x ∷ xs) a h = All-append P (f x) (flat_map f xs) (h x (All-head Q x xs a)) (all_flat P Q f xs (All-tail Q x xs a) h)

pub all_if : {X : Type 0} (P : X → Type 0) (b : Bool) (x : X) → (b ≡ true → P x) → All P (if b then x ∷ [] else [])
all_if P true x h = All-cons P x [] (h refl) (All-nil P)
all_if P false x h = All-nil P

few_range : {X : Type 0} (m : ℕ) (f : ℕ → List X) (a n : ℕ) → ((k : ℕ) → length (f k) ≤ m) → length (flat_map f (range_with_len a n)) ≤ n * m
few_range m f a zero h = omega arith
few_range m f a (suc n) h =
    let one = h a in
    let more = few_range m f (a + 1) n h in
    let size = length-append (f a) (flat_map f (range_with_len (a + 1) n)) in
    omega arith

pub few_numbers : {X : Type 0} (m : ℕ) (f : ℕ → List X) → ((k : ℕ) → length (f k) ≤ m) → length (each_number f) ≤ 16 * m
unfolding each_number
few_numbers m f h = few_range m f 1 16 h

pub few_if : {X : Type 0} (b : Bool) (x : X) → length (if b then x ∷ [] else []) ≤ 1
few_if true x = omega arith
few_if false x = omega arith

-- what holds of all holds of one that is among them
pub among : (P : ℕ → Type 0) (n : ℕ) (xs : List ℕ) → All P xs → has_number xs n ≡ true → P n
among P n [] a e = absurd (cc)
among P n (x ∷ xs) a e = elim (cases_Bool (x == n)) [
  | inl is ↦ subst P (eqb-true x n is) (All-head P x xs a)
  | inr other ↦ among P n xs (All-tail P x xs a) (rw other at e)
]

pub any_here : {X : Type 0} (p : X → Bool) (xs : List X) → All (λ x. p x ≡ true → list_any p xs ≡ true) xs
any_here {X} p [] = All-nil (λ (y : X). p y ≡ true → list_any p [] ≡ true)
any_here {X} p (x ∷ xs) = All-cons (λ (y : X). p y ≡ true → (p x || list_any p xs) ≡ true) x xs (λ e. rw e refl) (All-weaker (λ (y : X). p y ≡ true → list_any p xs ≡ true) (λ (y : X). p y ≡ true → (p x || list_any p xs) ≡ true) (λ y h e. or_right (p x) (list_any p xs) (h e)) xs (any_here p xs))

pub got : {X : Type 0} (xs : List X) (i : ℕ) (d x : X) → slice_get xs i ≡ Some x → get_or xs i d ≡ x
got [] i d x e = absurd (cc)
got (y ∷ ys) zero d x e = cc
got (y ∷ ys) (suc i) d x e = got ys i d x e
