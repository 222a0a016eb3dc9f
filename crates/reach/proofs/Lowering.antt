-- Tables of tenths that are lowered place by place.
use Rattle.std.proofs.Common.{◌≡◌, sym, ◌∙◌, subst, ◌⊎◌, inl, inr, ◌↔◌, ℕ, ◌+◌, ◌<◌, ℤ, pos, List, length, set, get_or-set_same, get_or-set_other, arith}
use Rattle.std.proofs.lemmas.Int.{ints}
use Rattle.std.proofs.lemmas.Bool.{cases_eq}
use Rattle.std.proofs.lemmas.Grind.{common_steps}
use Rattle.colour_machine.specs.Rules.{Rules}
use Rattle.reach.specs.Sets.{at}
use Rattle.reach.specs.Arrivals.{IsLowered, ByLetters, ByColours}

pub lowered_more : (a b c : List ℤ) (C1 C2 C : ℕ → ℤ → Type 0) → ((d : ℕ) (y : ℤ) → C d y ↔ (C1 d y ⊎ C2 d y)) → IsLowered a b C1 → IsLowered b c C2 → IsLowered a c C
lowered_more a b c C1 C2 C s (l, f) (k, g) = (
  k,
  λ d h.
      let p = f d h in let q = g d h in (
        omega (arith, ints),
        λ x j. elim ((s d x).0 j) [ inl y ↦ let i = p.1 x y in omega (arith, ints) | inr y ↦ q.1 x y ],
        elim q.2 [
          | inl e ↦ elim p.2 [ inl e2 ↦ inl (e ∙ e2) | inr y ↦ inr ((s d (at c d)).1 (inl (subst (C1 d) (sym e) y))) ]
          | inr y ↦ inr ((s d (at c d)).1 (inr y))
        ],
      ),
)

pub colours_more : (m : Rules) (k : ℕ) (leave : List ℤ) (d : ℕ) (y : ℤ) → ByColours m (k + 1) leave d y ↔ (ByColours m k leave d y ⊎ ByLetters m k m.letters (at leave k) d y)
colours_more m k leave d y = (
  λ (c, lt, b). elim (cases_eq c k) [ inl e ↦ inr (subst (λ (n : ℕ). ByLetters m n m.letters (at leave n) d y) e b) | inr ne ↦ inl (c, omega arith, b) ],
  λ h. elim h [ inl (c, lt, b) ↦ (c, omega arith, b) | inr b ↦ (k, omega arith, b) ],
)

-- one more place of a table is right
pub place_more : (P : ℕ → ℤ → Type 0) (new : List ℤ) (k : ℕ) (x : ℤ) → k < length new → ((c : ℕ) → c < k → P c (at new c)) → P k x → (c : ℕ) → c < k + 1 → P c (at (set new k x) c)
place_more P new k x h below here c lt = elim (cases_eq c k) [
  | inl e ↦ let s : at (set new k x) c ≡ x = rw e (get_or-set_same new k x (pos 0) h) in rw s (rw e here)
  | inr ne ↦ let s : at (set new k x) c ≡ at new c = get_or-set_other new k c x (pos 0) ne in rw s (below c (omega arith))
]

pub length_same : (new : List ℤ) (k : ℕ) (x : ℤ) → length new ≡ 16 → length (set new k x) ≡ 16
length_same new k x h = grind (arith, common_steps)
