-- Facts of results and of numbers.
use Rattle.std.proofs.Common.{sym, subst, inl, inr, ℕ, ◌+◌, ◌<◌, arith}
use Rattle.std.specs.Prelude.{IfSome, MatchOption, OnOk, Option, Some, None, Result, Ok, Err}
use Rattle.std.proofs.lemmas.Bool.{cases_eq}

pub one_more : (P : ℕ → Type 0) (i : ℕ) → ((k : ℕ) → k < i → P k) → P i → (k : ℕ) → k < i + 1 → P k
one_more P i h p k lt = elim (cases_eq k i) [ inl same ↦ subst P (sym same) p | inr ne ↦ h k (omega arith) ]

pub both_ok : {A E : Type 0} → (r : Result A E) (P Q R : Type 0) → (P → Q → R) → OnOk r P → OnOk r Q → OnOk r R
both_ok (Ok a) P Q R f p q = f p q
both_ok (Err e) P Q R f p q = tt

pub none_map : {A : Type 0} → (o : Option A) (N M : Type 0) (S : A → Type 0) → (N → M) → MatchOption o N S → MatchOption o M S
none_map None N M S f h = f h
none_map (Some a) N M S f h = h

pub both_map : {A : Type 0} → (o : Option A) (N M : Type 0) (S T : A → Type 0) → (N → M) → ((a : A) → S a → T a) → MatchOption o N S → MatchOption o M T
both_map None N M S T f g h = f h
both_map (Some a) N M S T f g h = g a h

pub some_of : {A : Type 0} → (o : Option A) (N : Type 0) (S : A → Type 0) → MatchOption o N S → IfSome o S
some_of None N S h = tt
some_of (Some a) N S h = h
