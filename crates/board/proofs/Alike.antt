-- States that can no longer be told apart, and what they lead to.
use Rattle.std.proofs.Common.{◌≡◌, refl, sym, ◌∙◌, subst, ◌⊎◌, inl, inr, ℕ, ◌<◌, ℤ, pos, ◌+ℤ◌, ◌≤ℤ◌, Bool, List, [], ◌∷◌, arith, Some}
use Rattle.std.proofs.lemmas.Int.{ints}
use Rattle.colour_machine.specs.Rules.{Rules, IsMachine}
use Rattle.reach.specs.Runs.{State, OldEnough, Step, Steps, Run}
use Rattle.board.specs.History.{Agreeing, Event, Track}

-- the states have one colour, and one entry or both entries more than an hour before tenth p
abbrev pub Alike : Rules → ℤ → State → State → Type 0
Alike m p s r = (s.colour < m.colours) × (r.colour ≡ s.colour) × ((r ≡ s) ⊎ (((s.entry +ℤ pos 36001) ≤ℤ p) × ((r.entry +ℤ pos 36001) ≤ℤ p)))

step_alike : (m : Rules) (p t : ℤ) (s r u : State) (l : ℕ) → IsMachine m → p ≤ℤ t → Alike m p s r → Step m t s l u → (v : State) × Step m t r l v × Alike m p u v
step_alike m p t s r u l laws h (few, same, k) ((_, lt, goes), ev) =
    let here : r.colour < m.colours = rw same few in
    elim ev [
      | inl stay ↦
          let next : m.next r.colour l ≡ Some r.colour = rw same (subst (λ (x : State). m.next s.colour l ≡ Some x.colour) stay goes) in
          (r, ((here, lt, next), inl refl), subst (λ (x : State). Alike m p x r) (sym stay) (few, same, k))
      | inr (ne, at, old) ↦
          let next : m.next r.colour l ≡ Some u.colour = rw same goes in
          let floor = laws.low_floor s.colour few in
          let far : OldEnough m t r = elim k [ inl x ↦ subst (λ (y : State). OldEnough m t y) (sym x) old | inr (a, b) ↦ rw same (omega (arith, ints)) ] in
          (u, ((here, lt, next), inr ((λ e. ne (e ∙ same)), at, far)), (laws.stays s.colour l u.colour few lt goes, refl, inl refl))
    ]

steps_alike : (m : Rules) (p t : ℤ) (ls : List ℕ) (s r u : State) → IsMachine m → p ≤ℤ t → Alike m p s r → Steps m t s ls u → (v : State) × Steps m t r ls v × Alike m p u v
steps_alike m p t [] s r u laws h a e = (r, refl, subst (λ (x : State). Alike m p x r) (sym e) a)
steps_alike m p t (l ∷ ls) s r u laws h a (z, ev, e) =
    let (y, ev2, b) = step_alike m p t s r z l laws h a ev in
    let (v, e2, c) = steps_alike m p t ls z y u laws h b e in
    (v, (y, ev2, e2), c)

run_alike : (m : Rules) (p t : ℤ) (lists : List (List ℕ)) (s r u : State) → IsMachine m → p ≤ℤ t → Alike m p s r → Run m t s lists u → (v : State) × Run m t r lists v × Alike m p u v
run_alike m p t [] s r u laws h a e = (r, refl, subst (λ (x : State). Alike m p x r) (sym e) a)
run_alike m p t (ls ∷ lists) s r u laws h a (z, ev, e) =
    let (y, ev2, b) = steps_alike m p t ls s r z laws h a ev in
    let (v, e2, c) = run_alike m p (t +ℤ pos 1) lists z y u laws (omega (arith, ints)) b e in
    (v, (y, ev2, e2), c)

-- states that are alike lead to states that are alike, by the same letters
pub agreeing_alike : (k : Track) (known : ℕ → Bool) (given : ℕ → List Event) (f t : ℕ) (s r u : State) → IsMachine k.rules → Alike k.rules (pos f) s r → Agreeing k known given f t s u → (v : State) × Agreeing k known given f t r v × Alike k.rules (pos f) u v
agreeing_alike k known given f t s r u laws a (lists, len, (g, run)) =
    let (v, run2, b) = run_alike k.rules (pos f) (pos f) lists s r u laws (omega (arith, ints)) a run in
    (v, (lists, len, (g, run2)), b)
