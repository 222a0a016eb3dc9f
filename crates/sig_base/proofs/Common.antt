-- Lemmas that several crates use.
use Rattle.std.proofs.Common.{◌≡◌, Bool, true, false, ◌&&◌, refl, ◌⊎◌, inl, inr, ◌||◌, List, [], ◌∷◌, filter, ◌<◌, ℕ, nat_lt, arith, ◌≤◌, not, ◌∙◌, ℤ, sym, ◌≤ℤ◌, int_le, ◌+◌, length, drop, get_or, add-one, Result, Ok, Err, IfOk, Some}
use Rattle.std.specs.Prelude.{◌==◌, Option, None}
use Rattle.std.proofs.lemmas.Bool.Decides.{nat_tests, Decides-int_eq}
use Rattle.std.specs.Ordering.{nat_cmp, is_lt, int_eq}
use Rattle.std.proofs.lemmas.Bool.{false≢true}
use Rattle.std.proofs.lemmas.Int.{ints}
use Rattle.std.proofs.Math.Seq.{drop-cons}
use Rattle.std.specs.Option.{option_or}
use Rattle.sig_base.specs.declared.values.Row.{Row}

pub and_first : (a b : Bool) → (a && b) ≡ true → a ≡ true
and_first true b e = refl
and_first false b e = e

pub and_last : (a b : Bool) → (a && b) ≡ true → b ≡ true
and_last true b h = h
and_last false b h = cc

pub or_cases : (a b : Bool) → (a || b) ≡ true → (a ≡ true) ⊎ (b ≡ true)
or_cases true b h = inl refl
or_cases false b h = inr h

pub filter_same : (p q : Row → Bool) (xs : List Row) → ((y : Row) → p y ≡ q y) → filter p xs ≡ filter q xs
filter_same p q [] h = refl
filter_same p q (x ∷ xs) h = rw (h x, filter_same p q xs h) refl

pub is_less : (a b : ℕ) → a < b → nat_lt a b ≡ true
is_less a b h = grind (arith, nat_tests)

pub not_less : (a b : ℕ) → b ≤ a → nat_lt a b ≡ false
not_less a b h = grind (arith, nat_tests)

pub tie_is : (a b : ℕ) → (not (is_lt (nat_cmp a b)) && not (is_lt (nat_cmp b a))) ≡ (b == a)
tie_is a b = grind (arith, nat_tests)

-- a test of two tenths, and what it says
pub same_cases : (a b : ℤ) → ((int_eq a b ≡ true) × (a ≡ b)) ⊎ ((int_eq a b ≡ false) × (a ≡ b → ⊥))
same_cases a b = by (int_eq a b) refl
  where
    by : (t : Bool) → int_eq a b ≡ t → ((int_eq a b ≡ true) × (a ≡ b)) ⊎ ((int_eq a b ≡ false) × (a ≡ b → ⊥))
    by true e = inl (e, (Decides-int_eq a b).0 e)
    by false e = inr (e, λ q. false≢true (sym e ∙ (Decides-int_eq a b).1 q))

pub le_said : (a b : ℤ) → int_le a b ≡ true → a ≤ℤ b
le_said a b e = grind (arith, ints)

pub clash : (b : Bool) → b ≡ true → b ≡ false → ⊥
clash b t f = let bad : true ≡ false = sym t ∙ f in absurd (cc)

pub and_false : (b : Bool) → (b && false) ≡ false
and_false true = refl
and_false false = refl

pub not_true : (b : Bool) → not b ≡ true → b ≡ false
not_true true e = let bad : false ≡ true = e in absurd (cc)
not_true false e = refl

pub next_row : (rows : List Row) (i : ℕ) (d : Row) → i < length rows → drop i rows ≡ get_or rows i d ∷ drop (i + 1) rows
next_row rows i d h = rw (add-one i) (drop-cons rows i d h)

pub or_none : (o : Option Row) → option_or o None ≡ o
or_none None = refl
or_none (Some r) = refl

pub ok_more : {T E : Type 0} (P Q : T → Type 0) (r : Result T E) → ((x : T) → P x → Q x) → IfOk r P → IfOk r Q
ok_more P Q (Ok x) f h = f x h
ok_more P Q (Err e) f h = h

pub some_same : {A : Type 0} (x y : A) → Some x ≡ Some y → x ≡ y
some_same x y e = cc
