-- Hours in their places, and how many rows they have.
use Rattle.std.proofs.Common.{◌≡◌, ◌∙◌, ℕ, zero, suc, ◌+◌, ◌-◌, ◌*◌, ◌<◌, ◌≤◌, List, [], ◌∷◌, length, get_or, set, Option, Some, None, refl, sym, subst, arith, inl, inr, replicate, get_or-set_same, get_or-set_other, length-set}
use Rattle.std.specs.List.{sum_by}
use Rattle.std.proofs.lemmas.List.{get_or_default, length-replicate}
use Rattle.std.proofs.lemmas.List.Sums.{sum_by-cons, sum_by-set}
use Rattle.std.proofs.lemmas.List.Folds.{sum_by-replicate}
use Rattle.std.proofs.lemmas.Bool.{cases_eq}
use Rattle.sig_base.specs.HourRows.{Shown}
use Rattle.hour_store.specs.Store.{Store, AreInPlace, IsOfHour, IsStore, count_in, nothing_held, with_hour}

abbrev pub nothing : Option Shown
nothing = None

none_at : (n h : ℕ) → get_or (replicate n nothing) h nothing ≡ nothing
none_at zero h = refl
none_at (suc n) zero = refl
none_at (suc n) (suc h) = none_at n h

none_in_place : (n : ℕ) → AreInPlace (replicate n nothing)
none_in_place n h r e = absurd (let f = sym e ∙ none_at n h in cc)

-- a store that holds and blanks nothing
pub nothing_is_store : (n : ℕ) → 1 ≤ n → n ≤ 744 → IsStore (nothing_held n)
nothing_is_store n some few = record {
  some = rw length-replicate some;
  few = rw length-replicate few;
  in_place = none_in_place n;
  blanked = λ e m. absurd m;
}

pub nothing_counted : (n : ℕ) → 0 ≡ sum_by count_in (replicate n nothing)
nothing_counted n = rw sum_by-replicate (omega arith)

-- what is found at an hour is of that hour
pub of_hour : (hours : List (Option Shown)) (h : ℕ) (x : Option Shown) (r : Shown) → AreInPlace hours → h < length hours → x ≡ get_or hours h x → x ≡ Some r → IsOfHour h r
of_hour hours h x r p lt here e = p h r (get_or_default hours h None x lt ∙ sym here ∙ e)

-- rows put in the place of their hour
pub put_is_store : (s : Store) (h : ℕ) (r : Shown) → IsStore s → h < length s.hours → IsOfHour h r → IsStore (with_hour s h (Some r))
put_is_store s h r p lt q = record {
  some = rw length-set p.some;
  few = rw length-set p.few;
  in_place = λ k x e. elim (cases_eq k h) [
    | inl same ↦
        let f : get_or (set s.hours h (Some r)) k None ≡ Some r = rw (same, get_or-set_same) refl in
        let g : Some r ≡ Some x = sym f ∙ e in
        let i : r ≡ x = cc in
        subst (λ y. IsOfHour k y) i (subst (λ (j : ℕ). IsOfHour j r) (sym same) q)
    | inr other ↦ p.in_place k x (sym (get_or-set_other s.hours h k (Some r) None other) ∙ e)
  ];
  blanked = rw length-set p.blanked;
}

-- nothing in the place of an hour
pub take_is_store : (s : Store) (h : ℕ) → IsStore s → h < length s.hours → IsStore (with_hour s h None)
take_is_store s h p lt = record {
  some = rw length-set p.some;
  few = rw length-set p.few;
  in_place = λ k x e. elim (cases_eq k h) [
    | inl same ↦
        let f : get_or (set s.hours h nothing) k None ≡ nothing = rw (same, get_or-set_same) refl in
        absurd (let g = sym f ∙ e in cc)
    | inr other ↦ p.in_place k x (sym (get_or-set_other s.hours h k None None other) ∙ e)
  ];
  blanked = rw length-set p.blanked;
}

-- how many rows are held after a change of one hour
pub sum_changed : (hours : List (Option Shown)) (h : ℕ) (x y : Option Shown) → h < length hours → x ≡ get_or hours h x → (sum_by count_in hours + count_in y) - count_in x ≡ sum_by count_in (set hours h y)
sum_changed hours h x y lt here =
    let e = sum_by-set count_in hours h y x lt in
    let f : sum_by count_in (set hours h y) + count_in x ≡ sum_by count_in hours + count_in y = rw (← here) at e in
    omega arith

few_each : (hours : List (Option Shown)) → ((h : ℕ) (r : Shown) → get_or hours h None ≡ Some r → length r.rows ≤ 400000) → sum_by count_in hours ≤ 400000 * length hours
few_each [] p = omega arith
few_each (None ∷ hs) p = let i = few_each hs (λ h r e. p (suc h) r e) in omega arith
few_each (Some r ∷ hs) p = let i = few_each hs (λ h x e. p (suc h) x e) in let j = p 0 r refl in rw sum_by-cons (omega arith)

-- how many rows there can be
pub few_rows : (hours : List (Option Shown)) → length hours ≤ 744 → AreInPlace hours → sum_by count_in hours ≤ 400000 * 744
few_rows hours le p = let i = few_each hours (λ h r e. (p h r e).rows_are.few) in omega arith
