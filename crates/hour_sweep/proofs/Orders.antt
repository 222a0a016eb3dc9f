-- Rows in order, and the rows of a stretch.
use Rattle.std.proofs.Common.{◌≡◌, ℕ, ◌<◌, ◌≤◌, Bool, true, false, cond, List, [], ◌∷◌, ◌++◌, refl, ap, sym, subst, ◌∙◌, arith, length, drop, ltb, inl, inr}
use Rattle.std.specs.Prelude.{All}
use Rattle.std.proofs.lemmas.List.Elements.{All-nil, All-cons}
use Rattle.std.proofs.lemmas.List.Sums.{take_while-cons}
use Rattle.std.proofs.lemmas.Bool.{cases_Bool, ltb-true, ltb-false, cond-true, cond-false}
use Rattle.sig_base.specs.declared.values.Row.{Row}
use Rattle.sig_base.specs.HourRows.{RiseIn}
use Rattle.hour_sweep.specs.Rows.{known_rows}
use Rattle.hour_sweep.specs.Hours.{AreOrdered}
use Rattle.hour_sweep.specs.Passes.{front, back}

pub end_of : (a b : ℕ) (xs : List Row) → AreOrdered a b xs → a ≤ b
end_of a b [] h = h
end_of a b (x ∷ xs) h = omega (arith, end_of x.at b xs h.2)

abbrev pub Knows : (ℕ → Bool) → Bool → ℕ → ℕ → Type 0
Knows known v a b = (t : ℕ) → a ≤ t → t < b → known t ≡ v

pub record IsSplit (a t b : ℕ) (xs f g : List Row) : Type 0 where
  pub joined : f ++ g ≡ xs
  pub first : AreOrdered a t f
  pub rest : AreOrdered t b g

pub split_rows : (a t b : ℕ) (xs : List Row) → a ≤ t → t ≤ b → AreOrdered a b xs → IsSplit a t b xs (front t xs) (back t xs)
split_rows a t b [] le up h = record { joined = refl; first = le; rest = up }
split_rows a t b (x ∷ xs) le up h =
    let step = take_while-cons (λ (z : Row). ltb z.at t) x xs in
    elim (cases_Bool (ltb x.at t)) [
      | inl e ↦
          let lt : x.at < t = ltb-true x.at t e in
          let more = split_rows x.at t b xs (omega arith) up h.2 in
          subst (λ (f : List Row). IsSplit a t b (x ∷ xs) f (drop (length f) (x ∷ xs))) (sym (step ∙ cond-true (ltb x.at t) (x ∷ front t xs) [] e))
          (record { joined = ap (λ zs. x ∷ zs) more.joined; first = (h.0, lt, more.first); rest = more.rest })
      | inr e ↦
          subst (λ (f : List Row). IsSplit a t b (x ∷ xs) f (drop (length f) (x ∷ xs))) (sym (step ∙ cond-false (ltb x.at t) (x ∷ front t xs) [] e))
          (record { joined = refl; first = le; rest = (ltb-false x.at t e, h.1, h.2) })
    ]

pub filter_all : (known : ℕ → Bool) (a b : ℕ) (xs : List Row) → AreOrdered a b xs → Knows known true a b → known_rows known xs ≡ xs
filter_all known a b [] h kn = refl
filter_all known a b (x ∷ xs) h kn = rw (kn x.at h.0 h.1, filter_all known x.at b xs h.2 (λ k l u. kn k (omega arith) u)) refl

pub filter_none : (known : ℕ → Bool) (a b : ℕ) (xs : List Row) → AreOrdered a b xs → Knows known false a b → known_rows known xs ≡ []
filter_none known a b [] h kn = refl
filter_none known a b (x ∷ xs) h kn = rw (kn x.at h.0 h.1) (filter_none known x.at b xs h.2 (λ k l u. kn k (omega arith) u))

pub below_end : (a b : ℕ) (xs : List Row) → AreOrdered a b xs → All (λ x. x.at < b) xs
below_end a b [] h = All-nil (λ x. x.at < b)
below_end a b (x ∷ xs) h = All-cons (λ x. x.at < b) x xs h.1 (below_end x.at b xs h.2)

pub none_within : (a b : ℕ) (xs : List Row) → b ≤ a → AreOrdered a b xs → xs ≡ []
none_within a b [] le h = refl
none_within a b (x ∷ xs) le h = absurd (let l = h.0 in let u = h.1 in omega arith)

pub filter_ordered : (known : ℕ → Bool) (a b c : ℕ) (xs : List Row) → c ≤ a → AreOrdered a b xs → AreOrdered c b (known_rows known xs)
filter_ordered known a b c [] le h = omega arith
filter_ordered known a b c (x ∷ xs) le h =
    let lo = h.0 in
    elim (known x.at) as (λ v. AreOrdered c b (cond v (x ∷ known_rows known xs) (known_rows known xs)))
    [ true ↦ (omega arith, h.1, filter_ordered known x.at b x.at xs (omega arith) h.2) | false ↦ filter_ordered known x.at b c xs (omega arith) h.2 ]

pub ordered_from : (a t b : ℕ) (ys : List Row) → a ≤ t → AreOrdered t b ys → AreOrdered a b ys
ordered_from a t b [] le k = omega arith
ordered_from a t b (y ∷ ys) le k = let l = k.0 in (omega arith, k.1, k.2)

pub ordered-append : (a t b : ℕ) (xs ys : List Row) → AreOrdered a t xs → AreOrdered t b ys → AreOrdered a b (xs ++ ys)
ordered-append a t b [] ys h k = ordered_from a t b ys h k
ordered-append a t b (x ∷ xs) ys h k = let l = h.1 in (h.0, omega (arith, end_of t b ys k), ordered-append x.at t b xs ys h.2 k)

-- an hour's rows stand in order
pub rise_ordered : (a b : ℕ) (xs : List Row) → a ≤ b → RiseIn a b xs → AreOrdered a b xs
rise_ordered a b [] le h = le
rise_ordered a b (x ∷ xs) le h = let lt = h.1 in (h.0, lt, rise_ordered x.at b xs (omega arith) h.2)
