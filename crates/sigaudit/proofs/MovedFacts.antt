-- By an edit that makes one store of another, one range of hours moves.
use Rattle.std.proofs.Common.{◌≡◌, refl, ℕ, ◌+◌, ◌*◌, ◌<◌, ℤ, pos, ◌-ℤ◌, ◌≤ℤ◌, ◌<ℤ◌, inl, inr, arith, sym, ◌∙◌}
use Rattle.std.proofs.lemmas.Bool.{cases_lt}
use Rattle.std.proofs.lemmas.Int.{ints}
use Rattle.sig_base.specs.declared.values.Applied.{Applied}
use Rattle.hour_store.specs.Store.{Store}
use Rattle.ring_config.specs.Settings.{Settings}
use Rattle.session.specs.Edits.{Change, load, replace, withdraw, blank, unblank}
use Rattle.session.specs.Moved.{AreMoved, IsIn, Moves, Touches}

-- a tenth is in one hour
in_once : (t : ℤ) (a b : ℕ) → IsIn t a → IsIn t b → a ≡ b
in_once t a b x y =
    let p : pos (36000 * a) ≤ℤ t = x.0 in
    let q : t <ℤ pos (36000 * (a + 1)) = x.1 in
    let r : pos (36000 * b) ≤ℤ t = y.0 in
    let v : t <ℤ pos (36000 * (b + 1)) = y.1 in
    omega (arith, ints)

touched_once : (ch : Change) (a b x y : ℕ) → Touches ch a b → Touches ch x y → (a ≡ x) × (b ≡ y)
touched_once (load r) a b x y h k = (h.0 ∙ sym k.0, h.1 ∙ sym k.1)
touched_once (replace r) a b x y h k = (h.0 ∙ sym k.0, h.1 ∙ sym k.1)
touched_once (withdraw hour) a b x y h k = (h.0 ∙ sym k.0, h.1 ∙ sym k.1)
touched_once (blank from to) a b x y h k = (in_once from a x h.0 k.0, in_once (to -ℤ pos 1) b y h.1 k.1)
touched_once (unblank from to) a b x y h k = (in_once from a x h.0 k.0, in_once (to -ℤ pos 1) b y h.1 k.1)

module _ (c : Settings) (s t : Store) (first last : ℕ) where
  from_not_less : (a b : Applied) → AreMoved c s t first last a → AreMoved c s t first last b → a.from < b.from → ⊥
  from_not_less a b x y lt = elim y.from_same [ inl start ↦ absurd (omega arith) | inr same ↦ x.from_greatest b.from lt y.from_low same ]

  to_not_less : (a b : Applied) → AreMoved c s t first last a → AreMoved c s t first last b → a.to < b.to → ⊥
  to_not_less a b x y lt = elim x.to_same [ inl end ↦ (let high = y.to_high in absurd (omega arith)) | inr same ↦ y.to_least a.to x.to_low lt same ]

  from_once : (a b : Applied) → AreMoved c s t first last a → AreMoved c s t first last b → a.from ≡ b.from
  from_once a b x y = elim (cases_lt a.from b.from) [
    | inl less ↦ absurd (from_not_less a b x y less)
    | inr from ↦ elim (cases_lt b.from a.from) [ inl less ↦ absurd (from_not_less b a y x less) | inr more ↦ omega arith ]
  ]

  to_once : (a b : Applied) → AreMoved c s t first last a → AreMoved c s t first last b → a.to ≡ b.to
  to_once a b x y = elim (cases_lt a.to b.to) [
    | inl less ↦ absurd (to_not_less a b x y less)
    | inr from ↦ elim (cases_lt b.to a.to) [ inl less ↦ absurd (to_not_less b a y x less) | inr more ↦ omega arith ]
  ]

one_applied : (a b : Applied) → a.from ≡ b.from → a.to ≡ b.to → a ≡ b
one_applied a b e f =
    let one : Applied = record { from = a.from; to = a.to } in
    let other : Applied = record { from = b.from; to = b.to } in
    let same : one ≡ other = rw (e, f) refl in
    same

pub moved_once : (c : Settings) (s t : Store) (ch : Change) (a b : Applied) → Moves c s t ch a → Moves c s t ch b → a ≡ b
moved_once c s t ch a b (f, l, p, x) (g, m, q, y) =
    let touched = touched_once ch f l g m p q in
    let y' : AreMoved c s t f l b = rw (touched.0, touched.1) y in
    one_applied a b (from_once c s t f l a b x y') (to_once c s t f l a b x y')
