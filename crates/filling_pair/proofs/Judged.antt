-- Lists of terms and of strands, item by item.
use Rattle.std.proofs.Common.{◌≡◌, refl, sym, ap, ◌∙◌, subst, inl, inr, ◌⊎◌, ◌↔◌, ℕ, ◌+◌, ◌<◌, ◌≤◌, Bool, true, false, IsTrue, List, ◌∷◌, length, drop, get_or}
use Rattle.std.proofs.lemmas.Bool.{false≢true}
use Rattle.std.proofs.lemmas.List.{drop_more, drop_all}
use Rattle.sig_base.specs.declared.values.Row.{Row}
use Rattle.board.specs.declared.clause.Term.{Term}
use Rattle.board.specs.Verdicts.{HasSpec}
use Rattle.signal_log.specs.Log.{Log}
use Rattle.rule_audit.specs.declared.lines.Place.{Place}
use Rattle.rule_audit.specs.declared.rules.Rule.{Rule}
use Rattle.filling_pair.specs.declared.strands.Strand.{Strand}
use Rattle.filling_pair.specs.Strands.{AreAllStrands, HasStrand, IsStrand}
use Rattle.filling_pair.specs.Kept.{AreKept, KeepsAt}

at_item : {X : Type 0} (xs : List X) (i : ℕ) (x : X) → i < length xs → x ≡ get_or xs i x → drop i xs ≡ x ∷ drop (i + 1) xs
at_item xs i x lt e = drop_more xs i x lt ∙ ap (λ y. y ∷ drop (i + 1) xs) (sym e)

-- ---- terms

-- each term's channel has a strand
abbrev pub AllHave : List Term → List Strand → Type 0
AllHave terms ss = (i : ℕ) → HasSpec i terms → HasStrand i ss

pub have_turn : (terms : List Term) (ss : List Strand) (i : ℕ) (x : Term) → i < length terms → x ≡ get_or terms i x → HasStrand x.spec ss → (AllHave terms ss ↔ AllHave (drop i terms) ss) → AllHave terms ss ↔ AllHave (drop (i + 1) terms) ss
have_turn terms ss i x lt e here same =
    let k = subst (λ (xs : List Term). AllHave terms ss ↔ AllHave xs ss) (at_item terms i x lt e) same in (
      λ all j has. k.0 all j (inr has),
      λ rest. k.1 (λ j has. elim has [ inl q ↦ subst (λ (n : ℕ). HasStrand n ss) q here | inr more ↦ rest j more ]),
    )

pub have_stop : (terms : List Term) (ss : List Strand) (i : ℕ) (x : Term) → i < length terms → x ≡ get_or terms i x → (HasStrand x.spec ss → ⊥) → (AllHave terms ss ↔ AllHave (drop i terms) ss) → IsTrue false ↔ AllHave terms ss
have_stop terms ss i x lt e none same =
    let k = subst (λ (xs : List Term). AllHave terms ss ↔ AllHave xs ss) (at_item terms i x lt e) same in
    ((λ bad. absurd (false≢true bad)), (λ all. absurd (none (k.0 all x.spec (inl refl)))))

pub have_end : (terms : List Term) (ss : List Strand) (i : ℕ) → length terms ≤ i → (AllHave terms ss ↔ AllHave (drop i terms) ss) → IsTrue true ↔ AllHave terms ss
have_end terms ss i le same =
    let k = subst (λ (xs : List Term). AllHave terms ss ↔ AllHave xs ss) (drop_all i terms le) same in
    ((λ yes. k.1 (λ j none. absurd none)), (λ all. refl))

pub one_has : (b : Bool) (n : ℕ) (ss : List Strand) → (IsTrue b ↔ HasStrand n ss) → IsTrue b ↔ ((i : ℕ) → n ≡ i → HasStrand i ss)
one_has b n ss h = ((λ y i e. subst (λ (m : ℕ). HasStrand m ss) e (h.0 y)), (λ all. h.1 (all n refl)))

-- ---- strands

module _ (log : Log) (rows : List Row) (t : ℕ) (place : Place) (rule : Rule) where
  pub each_stop : (b : Bool) (ss : List Strand) (i : ℕ) (x : Strand) → i < length ss → x ≡ get_or ss i x → (IsTrue b ↔ IsStrand log x) → b ≡ false → (AreAllStrands log ss ↔ AreAllStrands log (drop i ss)) → IsTrue b ↔ AreAllStrands log ss
  each_stop b ss i x lt e is gone same =
      let k = subst (λ (xs : List Strand). AreAllStrands log ss ↔ AreAllStrands log xs) (at_item ss i x lt e) same in
      ((λ yes. absurd (false≢true (sym gone ∙ yes))), (λ all. is.1 (k.0 all).0))

  pub each_turn : (ss : List Strand) (i : ℕ) (x : Strand) → i < length ss → x ≡ get_or ss i x → IsStrand log x → (AreAllStrands log ss ↔ AreAllStrands log (drop i ss)) → AreAllStrands log ss ↔ AreAllStrands log (drop (i + 1) ss)
  each_turn ss i x lt e is same =
      let k = subst (λ (xs : List Strand). AreAllStrands log ss ↔ AreAllStrands log xs) (at_item ss i x lt e) same in
      ((λ all. (k.0 all).1), (λ rest. k.1 (is, rest)))

  pub kept_turn : (was one new : Bool) (ss : List Strand) (i : ℕ) (x : Strand) → i < length ss → x ≡ get_or ss i x → (IsTrue one ↔ KeepsAt log rows t place rule x) → (IsTrue new ↔ (IsTrue was ⊎ IsTrue one)) → (AreKept log rows t place rule ss ↔ (IsTrue was ⊎ AreKept log rows t place rule (drop i ss))) → AreKept log rows t place rule ss ↔ (IsTrue new ⊎ AreKept log rows t place rule (drop (i + 1) ss))
  kept_turn was one new ss i x lt e here either same =
      let k = subst (λ (xs : List Strand). AreKept log rows t place rule ss ↔ (IsTrue was ⊎ AreKept log rows t place rule xs)) (at_item ss i x lt e) same in (
        λ all. elim (k.0 all) [ inl y ↦ inl (either.1 (inl y)) | inr there ↦ elim there [ inl y ↦ inl (either.1 (inr (here.1 y))) | inr rest ↦ inr rest ] ],
        λ some. k.1 (elim some [ inl y ↦ elim (either.0 y) [ inl z ↦ inl z | inr z ↦ inr (inl (here.0 z)) ] | inr rest ↦ inr (inr rest) ]),
      )
