-- What is known after an edit.
use Rattle.std.proofs.Common.{◌≡◌, ◌≢◌, ◌∙◌, ◌↔◌, inl, inr, ℕ, ℤ, pos, ◌/◌, true, false, not, List, get_or, Option, Some, None, is_some, refl, sym, ap}
use Rattle.std.proofs.lemmas.Bool.{and_from, and_parts, cases_eq, false_from_ne_true, false≢true}
use Rattle.sig_base.specs.HourRows.{Shown}
use Rattle.span_set.specs.Spans.{Member, is_member}
use Rattle.span_set.proofs.Sets.{member_test}
use Rattle.hour_store.specs.Store.{IsKnown, Store, held_at}
use Rattle.session.specs.Ranges.{With, Without}
use Rattle.session.specs.Edits.{Change, load, replace, withdraw, blank, unblank}
use Rattle.edit_laws.specs.Stores.{HasOf, IsTaken, Makes, is_held}
use Rattle.edit_laws.specs.Knowledge.{IsKnownAfter, KnowledgeMoves}
use Rattle.edit_laws.proofs.Ranges.{between}
use Rattle.edit_laws.proofs.Told.{made_told}

-- a tenth that isn't blanked
abbrev IsClear : Store → ℕ → Type 0
IsClear s k = Member s.blanks (pos k) → ⊥

-- the test of a known tenth, and what it says
known_is : (s : Store) (k : ℕ) → IsKnown s k ↔ ((is_held s (k / 36000) ≡ true) × IsClear s k)
known_is s k = (
  λ e. let p = and_parts (is_held s (k / 36000)) (not (is_member s.blanks (pos k))) e in (p.0, λ m. false≢true (sym (ap not ((member_test s.blanks (pos k)).1 m)) ∙ p.1)),
  λ p. and_from (is_held s (k / 36000)) (not (is_member s.blanks (pos k))) p.0 (ap not (false_from_ne_true (is_member s.blanks (pos k)) (λ e. p.1 ((member_test s.blanks (pos k)).0 e)))),
)

-- a tenth of the hour that has something else after the edit, and of another hour
module _ (s t : Store) (k hour : ℕ) (x : Option Shown) (p : HasOf s hour x t) where
  known_here : k / 36000 ≡ hour → IsKnown t k ↔ ((is_some x ≡ true) × IsClear s k)
  known_here e =
      let held : is_held t (k / 36000) ≡ is_some x = ap (λ (o : Option Shown). is_some o) (ap (λ (h : ℕ). held_at t h) e ∙ p.here) in (
        λ i. let q = (known_is t k).0 i in (sym held ∙ q.0, rw p.blanks at q.1),
        λ q. (known_is t k).1 (held ∙ q.0, rw p.blanks q.1),
      )

  known_elsewhere : k / 36000 ≢ hour → IsKnown t k ↔ IsKnown s k
  known_elsewhere other =
      let held : is_held t (k / 36000) ≡ is_held s (k / 36000) = ap (λ (o : Option Shown). is_some o) (p.elsewhere (k / 36000) other) in (
        λ i. let q = (known_is t k).0 i in (known_is s k).1 (sym held ∙ q.0, rw p.blanks at q.1),
        λ i. let q = (known_is s k).0 i in (known_is t k).1 (held ∙ q.0, rw p.blanks q.1),
      )

load_known : (s t : Store) (r : Shown) (k : ℕ) → is_held s r.hour ≡ false → HasOf s r.hour (Some r) t → IsKnown t k ↔ IsKnownAfter s (load r) k
load_known s t r k free p = elim (cases_eq (k / 36000) r.hour) [
  | inl same ↦
      let here = known_here s t k r.hour (Some r) p same in (
        λ i. inr (same, (here.0 i).1),
        λ i. elim i [
          | inl known ↦ absurd (false≢true (sym free ∙ sym (ap (λ (h : ℕ). is_held s h) same) ∙ ((known_is s k).0 known).0))
          | inr new ↦ here.1 (refl, new.1)
        ],
      )
  | inr other ↦
      let apart = known_elsewhere s t k r.hour (Some r) p other in
      (λ i. inl (apart.0 i), λ i. elim i [ inl known ↦ apart.1 known | inr new ↦ absurd (other new.0) ])
]

replace_known : (s t : Store) (r : Shown) (k : ℕ) → is_held s r.hour ≡ true → HasOf s r.hour (Some r) t → IsKnown t k ↔ IsKnown s k
replace_known s t r k held p = elim (cases_eq (k / 36000) r.hour) [
  | inl same ↦
      let here = known_here s t k r.hour (Some r) p same in (
        λ i. (known_is s k).1 (ap (λ (h : ℕ). is_held s h) same ∙ held, (here.0 i).1),
        λ i. here.1 (refl, ((known_is s k).0 i).1),
      )
  | inr other ↦ known_elsewhere s t k r.hour (Some r) p other
]

withdraw_known : (s t : Store) (hour k : ℕ) → HasOf s hour None t → IsKnown t k ↔ IsKnownAfter s (withdraw hour) k
withdraw_known s t hour k p = elim (cases_eq (k / 36000) hour) [
  | inl same ↦ (λ i. absurd (false≢true ((known_here s t k hour None p same).0 i).0), λ i. absurd (i.1 same))
  | inr other ↦
      let apart = known_elsewhere s t k hour None p other in
      (λ i. (apart.0 i, other), λ i. apart.1 i.0)
]

blank_known : (s t : Store) (f u : ℤ) (k : ℕ) → t.hours ≡ s.hours → With s.blanks f u t.blanks → IsKnown t k ↔ IsKnownAfter s (blank f u) k
blank_known s t f u k hours w =
    let held : is_held t (k / 36000) ≡ is_held s (k / 36000) = ap (λ (hs : List (Option Shown)). is_some (get_or hs (k / 36000) None)) hours in (
      λ i. let q = (known_is t k).0 i in ((known_is s k).1 (sym held ∙ q.0, λ m. q.1 ((w (pos k)).1 (inl m))), λ m. q.1 ((w (pos k)).1 (inr m))),
      λ i. let q = (known_is s k).0 i.0 in (known_is t k).1 (held ∙ q.0, λ m. elim ((w (pos k)).0 m) [ inl old ↦ q.1 old | inr new ↦ i.1 new ]),
    )

unblank_known : (s t : Store) (f u : ℤ) (k : ℕ) → t.hours ≡ s.hours → Without s.blanks f u t.blanks → IsKnown t k ↔ IsKnownAfter s (unblank f u) k
unblank_known s t f u k hours w =
    let held : is_held t (k / 36000) ≡ is_held s (k / 36000) = ap (λ (hs : List (Option Shown)). is_some (get_or hs (k / 36000) None)) hours in (
      λ i. let q = (known_is t k).0 i in elim (between f u k) [
        | inl x ↦ inr (sym held ∙ q.0, x.1)
        | inr x ↦ inl ((known_is s k).1 (sym held ∙ q.0, λ m. q.1 ((w (pos k)).1 (m, x.1))))
      ],
      λ i. elim i [
        | inl known ↦ let q = (known_is s k).0 known in (known_is t k).1 (held ∙ q.0, λ m. q.1 ((w (pos k)).0 m).0)
        | inr new ↦ (known_is t k).1 (held ∙ new.0, λ m. ((w (pos k)).0 m).1 new.1)
      ],
    )

known_after : (s t : Store) (ch : Change) (k : ℕ) → IsTaken s ch → Makes s ch t → IsKnown t k ↔ IsKnownAfter s ch k
known_after s t (load r) k p q = load_known s t r k p.1 q
known_after s t (replace r) k p q = replace_known s t r k p.1 q
known_after s t (withdraw hour) k p q = withdraw_known s t hour k q
known_after s t (blank f u) k p q = blank_known s t f u k q.0 q.2
known_after s t (unblank f u) k p q = unblank_known s t f u k q.0 q.2

pub known_moves : KnowledgeMoves
known_moves s t ch k is e = let p = made_told s is ch t e in known_after s t ch k p.0 p.1
