-- Loops over the colours of a machine.
use Rattle.std.proofs.Common.{◌≡◌, subst, ◌⊎◌, inl, inr, ◌↔◌, ℕ, ◌+◌, ◌<◌, ◌≤◌, ℤ, pos, ◌≤ℤ◌, ◌<ℤ◌, IsTrue, List, length, Option, arith}
use Rattle.std.proofs.lemmas.Int.{ints}
use Rattle.std.proofs.lemmas.Bool.{cases_eq}
use Rattle.span_set.specs.declared.set.Span.{Span}
use Rattle.colour_machine.specs.Mask.{Has}
use Rattle.colour_machine.specs.Rules.{Goes, Rules}
use Rattle.reach.specs.Runs.{State}
use Rattle.reach.specs.Past.{Holds}
use Rattle.reach.specs.Ahead.{Admits}
use Rattle.reach.specs.Tests.{Sees}
use Rattle.reach.specs.declared.seen.Test.{Test}
use Rattle.reach.specs.declared.seen.Seen.{Seen}
use Rattle.reach.specs.declared.seen.AgeBound.TheVariants.{Any}
use Rattle.reach.proofs.Common.{colour_there}
use Rattle.channel_path.specs.Walks.{EnteredBefore}
use Rattle.detector_state.specs.Masks.{HasStates}

-- colours below k that P has
abbrev pub Below : (ℕ → Type 0) → ℕ → ℕ → Type 0
Below P k d = (d < k) × P d

module _ (P : ℕ → Type 0) where
  pub below_with : (k d old new : ℕ) → (Has old d ↔ Below P k d) → (Has new d ↔ (Has old d ⊎ (d ≡ k))) → P k → Has new d ↔ Below P (k + 1) d
  below_with k d old new a b here = (
    (λ h. elim (b.0 h) [ inl x ↦ (let (lt, p) = a.0 x in (omega arith, p)) | inr e ↦ (omega arith, rw e here) ]),
    λ (lt, p). elim (cases_eq d k) [ inl e ↦ b.1 (inr e) | inr ne ↦ b.1 (inl (a.1 (omega arith, p))) ],
  )

  pub below_same : (k d old : ℕ) → (Has old d ↔ Below P k d) → (P k → ⊥) → Has old d ↔ Below P (k + 1) d
  below_same k d old a none = (
    (λ h. let (lt, p) = a.0 h in (omega arith, p)),
    λ (lt, p). elim (cases_eq d k) [ inl e ↦ absurd (none (subst (λ (z : ℕ). P z) e p)) | inr ne ↦ a.1 (omega arith, p) ],
  )

-- where the letter leads from the colours of the mask below k
abbrev pub ImageBelow : Rules → ℕ → ℕ → ℕ → ℕ → Type 0
ImageBelow m k mask l d = (c : ℕ) × (c < k) × Has mask c × Goes m c l d

-- one of the states has the colour
abbrev pub HasState : List (List Span) → ℕ → Type 0
HasState before c = (s : State) × Holds before s × (s.colour ≡ c)

pub states_whole : (before : List (List Span)) (k mask : ℕ) → length before ≤ k → ((d : ℕ) → Has mask d ↔ Below (HasState before) k d) → HasStates before mask
states_whole before k mask all h d = (
  (λ x. ((h d).0 x).1),
  λ (s, held, e). (h d).1 ((let lt = colour_there before s held in omega arith), (s, held, e)),
)

module _ (before : List (List Span)) (latest : List (Option ℤ)) (test : Test) (none colour n : ℕ) (seen : Seen) (any : test.bound ≡ Any) (empty : (c : ℕ) → Has none c → ⊥) (mask : (c : ℕ) → Has test.colours c ↔ (Has none c ⊎ (c ≡ colour))) (size : length before ≡ n) (admits : (s : State) → Admits latest s ↔ ((s.colour < n) × (s.entry <ℤ test.at))) (sees : Sees before latest test seen) (f : ℕ) (low : pos f ≤ℤ test.at) (early : EnteredBefore before f) where
  pub state_seen : IsTrue seen.some_true ↔ HasState before colour
  state_seen = (
    (λ t. let (s, p, m) = sees.some_true.0 t in (s, p.0, elim ((mask s.colour).0 m.0) [ inl x ↦ absurd (empty s.colour x) | inr e ↦ e ])),
    λ (s, h, e).
        let e1 = early s h in
        let few : s.colour < n = (let lt = colour_there before s h in omega arith) in
        sees.some_true.1 (s, (h, omega (arith, ints), (admits s).1 (few, omega (arith, ints))), ((mask s.colour).1 (inr e), rw any tt)),
  )
