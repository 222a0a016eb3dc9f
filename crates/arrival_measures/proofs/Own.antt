-- Rows that are filtered twice, and those that begin or end green.
use Rattle.std.proofs.Common.{◌≡◌, ℕ, Bool, true, false, ◌&&◌, ◌||◌, cond, eqb, List, [], ◌∷◌, refl, ap, sym, ◌∙◌, filter}
use Rattle.std.proofs.lemmas.List.Elements.{filter_agree}
use Rattle.sig_base.specs.declared.values.Row.{Row}
use Rattle.arrival_measures.specs.Own.{is_turn, turns_green, turns_of}

-- one test after another

filter_if : {X : Type 0} (p : X → Bool) (v : Bool) (x : X) (xs : List X) → filter p (cond v (x ∷ xs) xs) ≡ cond (v && p x) (x ∷ filter p xs) (filter p xs)
filter_if p true x xs = refl
filter_if p false x xs = refl

pub filter_filter : {X : Type 0} (p q : X → Bool) (xs : List X) → filter p (filter q xs) ≡ filter (λ x. q x && p x) xs
filter_filter p q [] = refl
filter_filter p q (x ∷ xs) = filter_if p (q x) x (filter q xs) ∙ ap (λ zs. cond (q x && p x) (x ∷ zs) zs) (filter_filter p q xs)

and_swap : (a b : Bool) → (a && b) ≡ (b && a)
and_swap true true = refl
and_swap true false = refl
and_swap false true = refl
and_swap false false = refl

pub filter_swap : {X : Type 0} (p q : X → Bool) (xs : List X) → filter p (filter q xs) ≡ filter q (filter p xs)
filter_swap p q xs = filter_filter p q xs ∙ filter_agree (λ x. q x && p x) (λ x. p x && q x) (λ x. and_swap (q x) (p x)) xs ∙ sym (filter_filter q p xs)

pub and_part : (o q : Bool) → (q ≡ true → o ≡ true) → (o && q) ≡ q
and_part true q h = refl
and_part false true h = h refl
and_part false false h = refl

-- a test that passes less
pub filter_less : {X : Type 0} (p q : X → Bool) → ((x : X) → p x ≡ true → q x ≡ true) → (xs : List X) → filter p (filter q xs) ≡ filter p xs
filter_less p q h xs = filter_filter p q xs ∙ filter_agree (λ x. q x && p x) p (λ x. and_part (q x) (p x) (h x)) xs

-- rows of codes 1, 7 and 8

turn_code : (a b c : Bool) → ((a && b) || (a && c)) ≡ true → (b || c) ≡ true
turn_code true b c h = h
turn_code false true c h = refl
turn_code false false true h = refl
turn_code false false false h = h

pub turns_kept : (p : ℕ) (rows : List Row) → filter (turns_green p) (turns_of rows) ≡ filter (turns_green p) rows
turns_kept p rows = filter_less (turns_green p) is_turn (λ x h. turn_code (eqb x.param p) (eqb x.code 1) (eqb x.code 7 || eqb x.code 8) h) rows
