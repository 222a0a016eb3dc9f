-- Through known tenths without a letter the states that a channel may have stay the same.
use Rattle.std.proofs.Common.{◌≡◌, ◌↔◌, ℕ, zero, suc, ◌+◌, ◌-◌, ◌<◌, ◌≤◌, ℤ, pos, Bool, true, List, [], Option, refl, subst, sym, ◌∙◌, arith}
use Rattle.span_set.specs.declared.set.Span.{Span}
use Rattle.reach.specs.Runs.{State, Steps}
use Rattle.reach.specs.Past.{Holds}
use Rattle.reach.specs.Ahead.{Admits}
use Rattle.board.specs.History.{Agreeing, Event, Track, letters}
use Rattle.board.specs.Verdicts.{IsAtEnd}
use Rattle.board.proofs.Bridge.{agreeing_join, agreeing_first, agreeing_none}
use Rattle.detector_state.specs.Ranges.{IsQuiet}

apart : (a x : ℕ) → a ≤ x → (d : ℕ) × (a + d ≡ x)
apart a x le = (x - a, omega arith)

module _ (k : Track) (known : ℕ → Bool) (given : ℕ → List Event) (f t : ℕ) (before : List (List Span)) (after : List (Option ℤ)) where
  -- the state before tenth y
  abbrev IsAtPoint : ℕ → State → Type 0
  IsAtPoint y v = ((s : State) × Holds before s × Agreeing k known given f y s v) × ((u : State) × Agreeing k known given y t v u × Admits after u)

  one_tenth : (y : ℕ) (w v : State) → known y ≡ true → letters k (given y) ≡ [] → Agreeing k known given y (y + 1) w v ↔ (v ≡ w)
  one_tenth y w v is none =
      let first = agreeing_first k known given y (y + 1) w v (omega arith) is in (
        λ a.
            let (z, st, rest) = first.0 a in
            let same : z ≡ w = subst (λ (ls : List ℕ). Steps k.rules (pos y) w ls z) none st in
            (agreeing_none k known given (y + 1) z v).0 rest ∙ same,
        λ e. first.1 (w, subst (λ (ls : List ℕ). Steps k.rules (pos y) w ls w) (sym none) refl, (agreeing_none k known given (y + 1) w v).1 e),
      )

  to_point : (y : ℕ) (s v : State) → f ≤ y → known y ≡ true → letters k (given y) ≡ [] → Agreeing k known given f (y + 1) s v ↔ Agreeing k known given f y s v
  to_point y s v le is none =
      let cut = agreeing_join k known given f y (y + 1) s v le (omega arith) in (
        λ a. let (w, p, q) = cut.0 a in subst (λ (z : State). Agreeing k known given f y s z) (sym ((one_tenth y w v is none).0 q)) p,
        λ p. cut.1 (v, p, (one_tenth y v v is none).1 refl),
      )

  from_point : (y : ℕ) (v u : State) → y < t → known y ≡ true → letters k (given y) ≡ [] → Agreeing k known given (y + 1) t v u ↔ Agreeing k known given y t v u
  from_point y v u lt is none =
      let cut = agreeing_join k known given y (y + 1) t v u (omega arith) (omega arith) in (
        λ q. cut.1 (v, (one_tenth y v v is none).1 refl, q),
        λ a. let (w, p, q) = cut.0 a in subst (λ (z : State). Agreeing k known given (y + 1) t z u) ((one_tenth y v w is none).0 p) q,
      )

  next_point : (y : ℕ) (v : State) → f ≤ y → y < t → known y ≡ true → letters k (given y) ≡ [] → IsAtPoint (y + 1) v ↔ IsAtPoint y v
  next_point y v le lt is none = (
    λ ((s, h, a), (u, b, ad)). ((s, h, (to_point y s v le is none).0 a), (u, (from_point y v u lt is none).0 b, ad)),
    λ ((s, h, a), (u, b, ad)). ((s, h, (to_point y s v le is none).1 a), (u, (from_point y v u lt is none).1 b, ad)),
  )

  far : (a b d x : ℕ) → f ≤ a → b ≤ t → IsQuiet k known given a b → a + d ≡ x → x < b → (v : State) → IsAtPoint (x + 1) v ↔ IsAtPoint (a + 1) v
  far a b zero x le up q e lt v = let same : x ≡ a = omega arith in subst (λ (z : ℕ). IsAtPoint (z + 1) v ↔ IsAtPoint (a + 1) v) (sym same) (λ p. p, λ p. p)
  far a b (suc d) x le up q e lt v =
      let here = q x (omega arith) lt in
      let step = next_point x v (omega arith) (omega arith) here.0 (here.1 (omega arith)) in
      let y = a + d in
      let same : x ≡ y + 1 = omega arith in
      let more = far a b d y le up q refl (omega arith) v in
      let more2 = subst (λ (z : ℕ). IsAtPoint z v ↔ IsAtPoint (a + 1) v) (sym same) more in
      (λ p. more2.0 (step.0 p), λ p. step.1 (more2.1 p))

  -- at the end of each tenth of a quiet range the same states may be as at the end of its first
  pub still : (a b x : ℕ) → f ≤ a → b ≤ t → IsQuiet k known given a b → a ≤ x → x < b → (v : State) → IsAtEnd k known given f x t before after v ↔ IsAtEnd k known given f a t before after v
  still a b x le up q l u v = let (d, e) = apart a x l in far a b d x le up q e u v
