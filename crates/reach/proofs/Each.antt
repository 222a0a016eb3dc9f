-- Sets of entries, changed one after another each by its own part.
use Rattle.std.proofs.Common.{◌≡◌, ◌∙◌, subst, inl, inr, ◌↔◌, ℕ, ◌+◌, ◌<◌, ◌≤◌, ℤ, List, length, set, arith}
use Rattle.std.proofs.lemmas.Bool.{cases_eq}
use Rattle.span_set.specs.declared.set.Span.{Span}
use Rattle.span_set.specs.Spans.{Member}
use Rattle.reach.specs.Sets.{set_of}
use Rattle.reach.proofs.Changing.{put_here, put_there}

-- one more of the sets is made of the one that it was
pub each_more : (P : ℕ → List Span → ℤ → Type 0) (old now : List (List Span)) (k : ℕ) (new : List Span) → k < length now → ((c : ℕ) → c < k → (e : ℤ) → Member (set_of now c) e ↔ P c (set_of old c) e) → ((c : ℕ) → k ≤ c → set_of now c ≡ set_of old c) → ((e : ℤ) → Member new e ↔ P k (set_of now k) e) → (c : ℕ) → c < k + 1 → (e : ℤ) → Member (set_of (set now k new) c) e ↔ P c (set_of old c) e
each_more P old now k new h below above one c lt e = elim (cases_eq c k) [
  | inl q ↦ rw (put_here now k c new h q) (rw q (subst (λ (ss : List Span). Member new e ↔ P k ss e) (above k (omega arith)) (one e)))
  | inr ne ↦ rw (put_there now k c new ne) (below c (omega arith) e)
]

-- and those after it are as they were
pub above_more : (old now : List (List Span)) (k : ℕ) (new : List Span) → ((c : ℕ) → k ≤ c → set_of now c ≡ set_of old c) → (c : ℕ) → k + 1 ≤ c → set_of (set now k new) c ≡ set_of old c
above_more old now k new above c le = let ne : c ≡ k → ⊥ = λ e. omega arith in put_there now k c new ne ∙ above c (omega arith)
