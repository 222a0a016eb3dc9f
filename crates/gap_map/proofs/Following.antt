-- Stretches by themselves, and what they say of each tenth.
use Rattle.std.proofs.Common.{◌≡◌, ◌∙◌, sym, refl, ◌⊎◌, inl, inr, ℕ, ◌<◌, ◌≤◌, Bool, true, false, ◌&&◌, ◌||◌, nat_le, nat_lt, List, [], ◌∷◌, arith}
use Rattle.std.proofs.lemmas.Bool.Decides.{nat_tests}
use Rattle.gap_map.specs.declared.stretch.Stretch.{Stretch}
use Rattle.gap_map.specs.Stretches.{AreStretches, FollowOn, known_at}
use Rattle.gap_map.proofs.Cutting.{stretches_same}

-- stretches that are cut by what is known follow one another
pub follows : (known : ℕ → Bool) (a b : ℕ) (ss : List Stretch) → AreStretches known a b ss → FollowOn a b ss
follows known a b [] e = e
follows known a b (s ∷ ss) (e, l, k, r) = (e, l, follows known s.to b ss r)

both_false : (k r : Bool) → r ≡ false → (k && false) || r ≡ false
both_false true r e = e
both_false false r e = e

none_before : (a b t : ℕ) (ss : List Stretch) → FollowOn a b ss → t < a → known_at ss t ≡ false
none_before a b t [] f h = refl
none_before a b t (s ∷ ss) (e, l, r) h =
    let q : nat_le s.from t ≡ false = grind (arith, nat_tests) in
    rw q (both_false s.known (known_at ss t) (none_before s.to b t ss r (omega arith)))

in_first : (k r : Bool) → r ≡ false → (k && true) || r ≡ k
in_first true r e = refl
in_first false r e = e

skipped : (k r : Bool) → r ≡ (k && false) || r
skipped true r = refl
skipped false r = refl

in_rest : (s : Stretch) (t : ℕ) (r : Bool) → s.to ≤ t → r ≡ (s.known && (nat_le s.from t && nat_lt t s.to)) || r
in_rest s t r h = let q : nat_lt t s.to ≡ false = grind (arith, nat_tests) in rw q (elim (nat_le s.from t) as (λ v. r ≡ (s.known && (v && false)) || r) [ true ↦ skipped s.known r | false ↦ skipped s.known r ])

-- stretches that follow one another are cut by what they say
pub own_known : (a b : ℕ) (ss : List Stretch) → FollowOn a b ss → AreStretches (known_at ss) a b ss
own_known a b [] f = f
own_known a b (s ∷ ss) (e, l, r) = (
  e,
  l,
  λ t x y. let p : nat_le s.from t ≡ true = grind (arith, nat_tests) in let q : nat_lt t s.to ≡ true = grind (arith, nat_tests) in rw (p, q) (in_first s.known (known_at ss t) (none_before s.to b t ss r y)),
  stretches_same (known_at ss) (known_at (s ∷ ss)) s.to b ss (λ t x y. in_rest s t (known_at ss t) x) (own_known s.to b ss r),
)

tenth_cases : (a b : ℕ) → (a < b) ⊎ (b ≤ a)
tenth_cases a b = grind arith

-- they say of each tenth what is known, where they are cut by it
pub known_at_is : (known : ℕ → Bool) (a b t : ℕ) (ss : List Stretch) → AreStretches known a b ss → a ≤ t → t < b → known_at ss t ≡ known t
known_at_is known a b t [] e x y = absurd (omega arith)
known_at_is known a b t (s ∷ ss) (e, l, k, r) x y = elim (tenth_cases t s.to) [
  | inl q ↦ (own_known a b (s ∷ ss) (e, l, follows known s.to b ss r)).2 t x q ∙ sym (k t x q)
  | inr q ↦ sym (in_rest s t (known_at ss t) q) ∙ known_at_is known s.to b t ss r q y
]
