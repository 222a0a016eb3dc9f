use Rattle.std.proofs.Common.{ℕ, ◌≡◌, ◌↔◌, ◌⊎◌, Bool, IsTrue, nat_eq, sym, ◌∙◌, subst, inl, inr}
use Rattle.std.proofs.lemmas.Bool.{eqb-true, eq-eqb}
use Rattle.colour_machine.specs.Mask.{Has}
use Rattle.colour_machine.proofs.Bits.{same_mask}
use Rattle.detector_state.proofs.asked.is_only.Goals as goal

only : (mask none one colour : ℕ) (is : Bool) → ((c : ℕ) → Has none c → ⊥) → ((c : ℕ) → Has one c ↔ (Has none c ⊎ (c ≡ colour))) → is ≡ nat_eq mask one → IsTrue is ↔ ((d : ℕ) → Has mask d ↔ (d ≡ colour))
only mask none one colour is empty with e =
    let own : (d : ℕ) → Has one d ↔ (d ≡ colour) = λ d. ((λ h. elim ((with d).0 h) [ inl x ↦ absurd (empty d x) | inr y ↦ y ]), λ y. (with d).1 (inr y)) in (
      (λ t. let same : mask ≡ one = eqb-true mask one (sym e ∙ t) in subst (λ (m : ℕ). (d : ℕ) → Has m d ↔ (d ≡ colour)) (sym same) own),
      λ h. let same : mask ≡ one = same_mask mask one (λ d. ((λ x. (own d).1 ((h d).0 x)), λ x. (h d).1 ((own d).0 x))) in e ∙ eq-eqb mask one same,
    )

pub returns : goal.returns
returns c = only c.args.mask c.none.result c.with.result c.args.colour c.eq.result c.none.ensures c.with.ensures c.eq.ensures
