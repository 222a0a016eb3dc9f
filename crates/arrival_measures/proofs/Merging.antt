-- Rows of two lists by tenth.
use Rattle.std.proofs.Common.{◌≡◌, ℕ, Bool, true, false, cond, List, [], ◌∷◌, ◌++◌, refl, ap, sym, ◌∙◌, arith}
use Rattle.std.specs.List.{filter}
use Rattle.std.proofs.lemmas.List.Elements.{filter-append}
use Rattle.sig_base.specs.declared.values.Row.{Row}
use Rattle.hour_sweep.specs.Hours.{AreOrdered}
use Rattle.hour_sweep.specs.Passes.{front, back}
use Rattle.hour_sweep.proofs.Orders.{ordered-append, split_rows}
use Rattle.arrival_measures.specs.Steps.{merged}

pub merged_ordered : (a b : ℕ) (xs ys : List Row) → AreOrdered a b xs → AreOrdered a b ys → AreOrdered a b (merged xs ys)
merged_ordered a b [] ys h k = k
merged_ordered a b (x ∷ xs) ys h k =
    let lo = h.0 in
    let hi = h.1 in
    let s = split_rows a x.at b ys lo (omega arith) k in
    ordered-append a x.at b (front x.at ys) (x ∷ merged xs (back x.at ys)) s.first (omega arith, hi, merged_ordered x.at b xs (back x.at ys) h.2 s.rest)

first_none : {X : Type 0} (xs ys : List X) → xs ++ ys ≡ [] → xs ≡ []
first_none [] ys e = refl
first_none (x ∷ xs) ys e = absurd (cc)

second_none : {X : Type 0} (xs ys : List X) → xs ++ ys ≡ [] → ys ≡ []
second_none [] ys e = e
second_none (x ∷ xs) ys e = absurd (cc)

-- a test that no row of the second list passes keeps what it keeps of the first one
pub merged_first : (P : Row → Bool) (a b : ℕ) (xs ys : List Row) → AreOrdered a b xs → AreOrdered a b ys → filter P ys ≡ [] → filter P (merged xs ys) ≡ filter P xs
merged_first P a b [] ys h k e = e
merged_first P a b (x ∷ xs) ys h k e =
    let lo = h.0 in
    let hi = h.1 in
    let s = split_rows a x.at b ys lo (omega arith) k in
    let parts : filter P (front x.at ys) ++ filter P (back x.at ys) ≡ [] = sym (filter-append P (front x.at ys) (back x.at ys)) ∙ ap (λ zs. filter P zs) s.joined ∙ e in
    let more = merged_first P x.at b xs (back x.at ys) h.2 s.rest (second_none (filter P (front x.at ys)) (filter P (back x.at ys)) parts) in
    filter-append P (front x.at ys) (x ∷ merged xs (back x.at ys))
    ∙ ap (λ zs. zs ++ filter P (x ∷ merged xs (back x.at ys))) (first_none (filter P (front x.at ys)) (filter P (back x.at ys)) parts)
    ∙ ap (λ zs. cond (P x) (x ∷ zs) zs) more

tail_none : (P : Row → Bool) (v : Bool) (x : Row) (xs : List Row) → cond v (x ∷ xs) xs ≡ [] → (v ≡ false) × (xs ≡ [])
tail_none P true x xs e = absurd (cc)
tail_none P false x xs e = (refl, e)

-- and one that no row of the first list passes
pub merged_second : (P : Row → Bool) (a b : ℕ) (xs ys : List Row) → AreOrdered a b xs → AreOrdered a b ys → filter P xs ≡ [] → filter P (merged xs ys) ≡ filter P ys
merged_second P a b [] ys h k e = refl
merged_second P a b (x ∷ xs) ys h k e =
    let lo = h.0 in
    let hi = h.1 in
    let s = split_rows a x.at b ys lo (omega arith) k in
    let none = tail_none P (P x) x (filter P xs) e in
    let more = merged_second P x.at b xs (back x.at ys) h.2 s.rest none.1 in
    filter-append P (front x.at ys) (x ∷ merged xs (back x.at ys))
    ∙ ap (λ v. filter P (front x.at ys) ++ cond v (x ∷ filter P (merged xs (back x.at ys))) (filter P (merged xs (back x.at ys)))) none.0
    ∙ ap (λ zs. filter P (front x.at ys) ++ zs) more
    ∙ sym (filter-append P (front x.at ys) (back x.at ys))
    ∙ ap (λ zs. filter P zs) s.joined
