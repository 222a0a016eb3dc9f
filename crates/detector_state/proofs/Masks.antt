-- What is in the masks.
use Rattle.std.proofs.Common.{suc, zero, ◌≡◌, refl, ap, sym, subst, ◌⊎◌, inl, inr, ◌↔◌, ℕ, ◌<◌, ◌≤◌, Option, Some, None, List, [], ◌∷◌, arith}
use Rattle.std.specs.Int.{bit_at}
use Rattle.std.proofs.lemmas.Bool.{cases_eq}
use Rattle.std.proofs.lemmas.Bool.Decides.{eqb_tells}
use Rattle.sig_base.proofs.Common.{some_same}
use Rattle.colour_machine.specs.Mask.{Has}
use Rattle.colour_machine.specs.Rules.{Leads, Rules}
use Rattle.colour_machine.proofs.Bits.{has_none, has_set, same_mask}
use Rattle.board.proofs.Joining.{Small}
use Rattle.detector_state.specs.Masks.{IsImage, all_below, image_below, with_colour}

has_with : (o : Option ℕ) (mask d : ℕ) → ((x : ℕ) → o ≡ Some x → x < 16) → Has (with_colour o mask) d ↔ (Has mask d ⊎ (o ≡ Some d))
has_with None mask d few = ((λ h. inl h), λ h. elim h [ inl x ↦ x | inr e ↦ absurd (cc) ])
has_with (Some x) mask d few =
    let both = has_set mask x d (few x refl) in
    ((λ h. elim (both.0 h) [ inl y ↦ inl y | inr e ↦ inr (ap (λ n. Some n) (sym e)) ]), λ h. both.1 (elim h [ inl y ↦ inl y | inr e ↦ inr (sym (some_same x d e)) ]))

-- where a letter leads from the first n colours of a mask
abbrev ImageBelow : (ℕ → ℕ → Option ℕ) → ℕ → ℕ → ℕ → ℕ → Type 0
ImageBelow next mask l n d = (c : ℕ) × (c < n) × Has mask c × (next c l ≡ Some d)

has_image : (next : ℕ → ℕ → Option ℕ) (mask l n d : ℕ) → ((c x : ℕ) → c < n → next c l ≡ Some x → x < 16) → Has (image_below next mask l n) d ↔ ImageBelow next mask l n d
unfolding image_below
has_image next mask l zero d few = ((λ h. absurd (has_none d h)), λ (c, lt, h, e). absurd (omega arith))
has_image next mask l (suc n) d few =
    let rest = has_image next mask l n d (λ c x lt e. few c x (omega arith) e) in
    let one = has_with (next n l) (image_below next mask l n) d (λ x e. few n x (omega arith) e) in
    elim (eqb_tells (bit_at mask n) 1) [
      | inl (test, is) ↦ rw test (
        (λ h. elim (one.0 h) [ inl y ↦ (let (c, lt, hc, e) = rest.0 y in (c, omega arith, hc, e)) | inr e ↦ (n, omega arith, is, e) ]),
        λ (c, lt, hc, e). elim (cases_eq c n) [
          | inl same ↦ one.1 (inr (subst (λ (z : ℕ). next z l ≡ Some d) same e))
          | inr ne ↦ one.1 (inl (rest.1 (c, omega arith, hc, e)))
        ],
      )
      | inr (test, not) ↦ rw test (
        (λ h. let (c, lt, hc, e) = rest.0 h in (c, omega arith, hc, e)),
        λ (c, lt, hc, e). elim (cases_eq c n) [
          | inl same ↦ absurd (not (subst (λ (z : ℕ). Has mask z) same hc))
          | inr ne ↦ rest.1 (c, omega arith, hc, e)
        ],
      )
    ]

pub has_all_below : (n c : ℕ) → n ≤ 16 → Has (all_below n) c ↔ (c < n)
unfolding all_below
has_all_below zero c le = ((λ h. absurd (has_none c h)), λ lt. absurd (omega arith))
has_all_below (suc n) c le =
    let rest = has_all_below n c (omega arith) in
    let one = has_set (all_below n) n c (omega arith) in (
      (λ h. elim (one.0 h) [ inl y ↦ (let lt = rest.0 y in omega arith) | inr e ↦ omega arith ]),
      λ lt. elim (cases_eq c n) [ inl e ↦ one.1 (inr e) | inr ne ↦ one.1 (inl (rest.1 (omega arith))) ],
    )

-- letters, one after another
abbrev pub after : Rules → ℕ → List ℕ → ℕ
after m mask [] = mask
after m mask (l ∷ ls) = after m (image_below m.next mask l m.colours) ls

module _ (m : Rules) (few : m.colours ≤ 16) (stays : (c l d : ℕ) → c < m.colours → l < m.letters → m.next c l ≡ Some d → d < m.colours) where
  pub image_is : (mask l d : ℕ) → l < m.letters → Has (image_below m.next mask l m.colours) d ↔ IsImage m mask l d
  image_is mask l d lt =
      let both = has_image m.next mask l m.colours d (λ c x small e. let s = stays c l x small lt e in omega arith) in
      ((λ h. let (c, small, hc, e) = both.0 h in (c, hc, (small, lt, e))), λ (c, hc, (small, _, e)). both.1 (c, small, hc, e))

  pub image_mask : (mask l r : ℕ) → l < m.letters → ((d : ℕ) → Has r d ↔ IsImage m mask l d) → r ≡ image_below m.next mask l m.colours
  image_mask mask l r lt h = same_mask r (image_below m.next mask l m.colours) (λ d. let both = image_is mask l d lt in ((λ x. both.1 ((h d).0 x)), λ x. (h d).1 (both.0 x)))

  pub all_mask : (r : ℕ) → ((d : ℕ) → Has r d ↔ (d < m.colours)) → r ≡ all_below m.colours
  all_mask r h = same_mask r (all_below m.colours) (λ d. let both = has_all_below m.colours d few in ((λ x. both.1 ((h d).0 x)), λ x. (h d).1 (both.0 x)))

  pub after_is : (ls : List ℕ) (mask d : ℕ) → Small m.letters ls → Has (after m mask ls) d ↔ ((c : ℕ) × Has mask c × Leads m c ls d)
  after_is [] mask d small = ((λ h. (d, h, refl)), λ (c, h, e). subst (λ (z : ℕ). Has mask z) e h)
  after_is (l ∷ ls) mask d (lt, small) =
      let rest = after_is ls (image_below m.next mask l m.colours) d small in (
        (λ h. let (x, hx, more) = rest.0 h in let (c, hc, g) = (image_is mask l x lt).0 hx in (c, hc, (x, g, more))),
        λ (c, hc, (x, g, more)). rest.1 (x, (image_is mask l x lt).1 (c, hc, g), more),
      )
