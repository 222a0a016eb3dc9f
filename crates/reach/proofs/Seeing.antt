-- What is seen of the possible states, colour by colour.
use Rattle.std.proofs.Common.{◌≡◌, ◌||◌, Bool, true, false, refl, subst, ◌⊎◌, inl, inr, ◌↔◌, ℕ, ◌+◌, ◌<◌, ℤ, List, [], length, get_or, Option, None, arith}
use Rattle.std.proofs.lemmas.Bool.{cases_eq}
use Rattle.std.specs.Bool.{IsTrue}
use Rattle.span_set.specs.declared.set.Span.{Span}
use Rattle.reach.specs.declared.seen.Test.{Test}
use Rattle.reach.specs.Runs.{State, state}
use Rattle.reach.specs.Tests.{Meets, IsPossible, SeenTrue, SeenFalse}
use Rattle.reach.proofs.States.{in_sets}

-- some number below k + 1, from below k and k
-- one of two, as either of them
pub or_is : (a b : Bool) → IsTrue (a || b) ↔ (IsTrue a ⊎ IsTrue b)
or_is true b = ((λ h. inl h), (λ x. refl))
or_is false b = ((λ h. inr h), (λ x. elim x [ inl h ↦ absurd (cc) | inr h ↦ h ]))

pub some_more : (W : ℕ → Type 0) (k : ℕ) (A B C : Type 0) → (A ↔ ((c : ℕ) × (c < k) × W c)) → (B ↔ W k) → (C ↔ (A ⊎ B)) → C ↔ ((c : ℕ) × (c < k + 1) × W c)
some_more W k A B C a b d = (
  λ h. elim (d.0 h) [ inl x ↦ let (c, lt, w) = a.0 x in (c, omega arith, w) | inr x ↦ (k, omega arith, b.0 x) ],
  λ (c, lt, w). elim (cases_eq c k) [ inl e ↦ d.1 (inr (b.1 (subst W e w))) | inr ne ↦ d.1 (inl (a.1 (c, omega arith, w))) ],
)

pub all_true : (sets : List (List Span)) (latest : List (Option ℤ)) (test : Test) (n : ℕ) → n ≡ length sets → ((c : ℕ) × (c < n) × SeenTrue (get_or sets c []) (get_or latest c None) c test) ↔ ((s : State) × IsPossible sets latest test.at s × Meets test s)
all_true sets latest test n h = (
  λ (c, lt, (e, m, le, nl, k)). (state c e, (m, le, nl), k),
  λ (s, (m, le, nl), k). (s.colour, (let i = in_sets sets s.colour s.entry m in omega arith), (s.entry, m, le, nl, k)),
)

pub all_false : (sets : List (List Span)) (latest : List (Option ℤ)) (test : Test) (n : ℕ) → n ≡ length sets → ((c : ℕ) × (c < n) × SeenFalse (get_or sets c []) (get_or latest c None) c test) ↔ ((s : State) × IsPossible sets latest test.at s × (Meets test s → ⊥))
all_false sets latest test n h = (
  λ (c, lt, (e, m, le, nl, k)). (state c e, (m, le, nl), k),
  λ (s, (m, le, nl), k). (s.colour, (let i = in_sets sets s.colour s.entry m in omega arith), (s.entry, m, le, nl, k)),
)
