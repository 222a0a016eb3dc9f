-- Where a letter leads.
use Rattle.std.proofs.Common.{◌≡◌, refl, sym, ap, ◌∙◌, subst, inl, inr, ◌↔◌, ℕ, ◌<◌, ◌≤◌, ℤ, pos, ◌+ℤ◌, ◌≤ℤ◌, Option, Some, None, arith}
use Rattle.sig_base.proofs.Common.{some_same}
use Rattle.colour_machine.specs.Rules.{Rules, IsMachine}
use Rattle.colour_machine.proofs.Ways.{goes_stays}
use Rattle.reach.specs.Runs.{State, Step}
use Rattle.reach.proofs.States.{state_same}
use Rattle.filling_pair.specs.declared.step.Stand.{Stand}
use Rattle.filling_pair.specs.Walking.{In, IsEnd, MovesBy, state_of}

pub no_letter : (m : Rules) (t : ℤ) (s : State) (l : ℕ) → m.letters ≤ l → IsEnd m (Step m t s l) None
no_letter m t s l h u (g, k) = let lt = g.1 in absurd (omega arith)

pub changed_step : (m : Rules) (t : ℤ) (here r : Stand) (l : ℕ) → IsMachine m → here.colour < m.colours → l < m.letters → Some r.colour ≡ m.next here.colour l → (r.colour ≡ here.colour → ⊥) → (here.entry +ℤ pos (m.floor here.colour)) ≤ℤ t → r.entry ≡ t → IsEnd m (Step m t (state_of here) l) (Some r)
changed_step m t here r l laws lt ll e ne old en = (
  goes_stays m here.colour l r.colour laws (lt, ll, sym e),
  λ u. (
    λ (g, k). let c = some_same u.colour r.colour (sym (g.2) ∙ sym e) in elim k [
      | inl same ↦ absurd (ne (sym c ∙ ap (λ (x : State). x.colour) same))
      | inr (n2, e2, o) ↦ state_same u (state_of r) c (e2 ∙ sym en)
    ],
    λ same. rw same ((lt, ll, sym e), inr (ne, en, old)),
  ),
)

pub one_moves : (m : Rules) (t l : ℕ) (here : Stand) (o : Option ℕ) (r : Option Stand) → o ≡ Some l → IsEnd m (Step m (pos t) (state_of here) l) r → IsEnd m (MovesBy m t o (state_of here)) r
one_moves m t l here o r e h = rw e h

-- what comes of the one state is what comes of all
pub end_in : (m : Rules) (P Q : State → Type 0) (r : Option Stand) → IsEnd m P r → ((v : State) × P v × Q v) ↔ In r Q
end_in m P Q None h = (λ (v, p, q). h v p, λ x. absurd x)
end_in m P Q (Some r) h = (λ (v, p, q). subst Q ((h.1 v).0 p) q, λ q. (state_of r, (h.1 (state_of r)).1 refl, q))
