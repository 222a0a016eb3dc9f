-- The last row that stands, as the search backward finds it.
use Rattle.std.proofs.Common.{◌≡◌, ◌∙◌, ℕ, ◌≤◌, Bool, true, false, List, [], ◌∷◌, ◌++◌, Option, Some, None, refl, ap, sym, subst, arith, inl, inr}
use Rattle.std.specs.Prelude.{All, find}
use Rattle.std.proofs.lemmas.Bool.{cases_Bool, cases_lt, false≢true, le-leb}
use Rattle.std.proofs.lemmas.List.Elements.{All-nil, All-cons, All-head, All-tail, All-append, All-same, All-weaker}
use Rattle.sig_base.specs.declared.values.Row.{Row}
use Rattle.hour_sweep.specs.Rows.{last_with, live, since}
use Rattle.hour_sweep.specs.Hours.{AreOrdered}
use Rattle.hour_sweep.proofs.Known.{live_lost, since_known, since_le}
use Rattle.service_cut.proofs.WholeServices.{LastIs, find_at, find_split, last_is, last_with_at}
use Rattle.service_cut.proofs.Fitting.{earlier_low}
use Rattle.other_measures.specs.declared.last_rows.LastRow.{LastRow}
use Rattle.other_measures.specs.LastRows.{last_row_in, last_row_of}
use Rattle.delay_laws.specs.Standing.{AreKnown, IsLastRow, IsStart, NoneStands, Stands}

-- what is known

pub live_known : (known : ℕ → Bool) (a t : ℕ) → live known a t ≡ true → AreKnown known a t
live_known known a t l k lo hi =
    elim (cases_Bool (known k)) [ inl e ↦ e | inr e ↦ absurd (false≢true (sym (live_lost known a k t lo hi e) ∙ l)) ]

pub known_live : (known : ℕ → Bool) (a t : ℕ) → AreKnown known a t → live known a t ≡ true
unfolding live
known_live known a t h =
    elim (cases_lt a t) [
      | inl lt ↦ let same : since known t ≡ since known a = since_known known a t (omega arith) h in le-leb (since known t) a (omega (arith, since_le known a))
      | inr le ↦ le-leb (since known t) a (omega (arith, since_le known t))
    ]

not_known : (known : ℕ → Bool) (a t : ℕ) → live known a t ≡ false → AreKnown known a t → ⊥
not_known known a t l h = false≢true (sym l ∙ known_live known a t h)

-- rows between rows

pub all_at : (P : Row → Type 0) (front : List Row) (x : Row) (back : List Row) → All P (front ++ x ∷ back) → P x × All P back
all_at P [] x back h = (All-head P x back h, All-tail P x back h)
all_at P (z ∷ front) x back h = all_at P front x back (All-tail P z (front ++ x ∷ back) h)

find_none : (p : Row → Bool) (xs : List Row) → find p xs ≡ None → All (λ z. p z ≡ false) xs
find_none p [] e = All-nil (λ z. p z ≡ false)
find_none p (x ∷ xs) e =
    elim (cases_Bool (p x)) [ inl h ↦ absurd (let f : Some x ≡ None = rw h at e in cc) | inr h ↦ All-cons (λ z. p z ≡ false) x xs h (find_none p xs (rw h at e)) ]

none_find : (p : Row → Bool) (xs : List Row) → All (λ z. p z ≡ false) xs → find p xs ≡ None
none_find p [] h = refl
none_find p (x ∷ xs) h = rw (All-head (λ z. p z ≡ false) x xs h) (none_find p xs (All-tail (λ z. p z ≡ false) x xs h))

start_told : (starts : Row → Bool) (rows : List Row) (o : Option Row) → find starts rows ≡ o → IsStart starts rows o
start_told starts rows None e = find_none starts rows e
start_told starts rows (Some y) e = find_split starts rows y e

start_found : (starts : Row → Bool) (rows : List Row) (o : Option Row) → IsStart starts rows o → find starts rows ≡ o
start_found starts rows None h = none_find starts rows h
start_found starts rows (Some y) h = ap (λ zs. find starts zs) h.2.joined ∙ find_at starts h.0 y h.1 h.2.none h.2.passes

pub stands_last : (test over : Row → Bool) (known : ℕ → Bool) (t : ℕ) (before : List Row) (x : Row) (after : List Row) → over x ≡ true → Stands test over known t before x after → last_with over before ≡ Some (x, after)
stands_last test over known t before x after o s = ap (λ zs. last_with over zs) s.joined ∙ last_with_at over s.to_x x after o s.none

-- the last row that passes, with the first one since it that starts something
module _ (test starts : Row → Bool) (known : ℕ → Bool) (t : ℕ) (before : List Row) where
  row_told : (o : Option (Row × List Row)) (l : LastRow) → LastIs test before o → last_row_in starts known t o ≡ Some l → IsLastRow test starts known t before (Some l)
  row_told None l li e = cc
  row_told (Some f) l li e =
      elim (cases_Bool (live known f.0.at t)) [
        | inl k ↦
            let same : record { row = f.0; first = find starts f.1 } ≡ l = let g : Some (record { row = f.0; first = find starts f.1 }) ≡ Some l = rw k at e in cc in
            subst (λ (l : LastRow). IsLastRow test starts known t before (Some l)) same
            (f.1, record { to_x = li.0; joined = li.1.joined; passes = li.1.passes; none = li.1.none; all_known = live_known known f.0.at t k }, start_told starts f.1 (find starts f.1) refl)
        | inr k ↦ absurd (let g : None ≡ Some l = rw k at e in cc)
      ]

  none_told : (o : Option (Row × List Row)) (a b : ℕ) → AreOrdered a b before → LastIs test before o → last_row_in starts known t o ≡ None → NoneStands test known t before
  none_told None a b w li e = All-weaker (λ z. test z ≡ false) (λ z. test z ≡ true → AreKnown known z.at t → ⊥) (λ z n y k. false≢true (sym n ∙ y)) before li
  none_told (Some f) a b w li e =
      let P : Row → Type 0 = λ z. test z ≡ true → AreKnown known z.at t → ⊥ in
      elim (cases_Bool (live known f.0.at t)) [
        | inl k ↦ absurd (let g : Some (record { row = f.0; first = find starts f.1 }) ≡ None = rw k at e in cc)
        | inr k ↦
            let earlier = earlier_low a b li.0 f.0 f.1 (subst (λ zs. AreOrdered a b zs) li.1.joined w) in
            All-same P before (li.0 ++ f.0 ∷ f.1) li.1.joined
            (All-append P li.0 (f.0 ∷ f.1)
            (All-weaker (λ z. z.at ≤ f.0.at) P (λ z le y h. not_known known f.0.at t k (λ n lo hi. h n (omega arith) hi)) li.0 earlier)
            (All-cons P f.0 f.1 (λ y h. not_known known f.0.at t k h)
            (All-weaker (λ z. test z ≡ false) P (λ z n y h. false≢true (sym n ∙ y)) f.1 li.1.none)))
      ]

  none_found : (o : Option (Row × List Row)) → LastIs test before o → NoneStands test known t before → last_row_in starts known t o ≡ None
  none_found None li h = refl
  none_found (Some f) li h =
      elim (cases_Bool (live known f.0.at t)) [
        | inl k ↦
            let P : Row → Type 0 = λ z. test z ≡ true → AreKnown known z.at t → ⊥ in
            let here = all_at P li.0 f.0 f.1 (All-same P (li.0 ++ f.0 ∷ f.1) before (sym li.1.joined) h) in
            absurd (here.0 li.1.passes (live_known known f.0.at t k))
        | inr k ↦ rw k refl
      ]

  pub last_row_told : (o : Option LastRow) (a b : ℕ) → AreOrdered a b before → last_row_of test starts known t before ≡ o → IsLastRow test starts known t before o
  unfolding last_row_of
  last_row_told None a b w e = none_told (last_with test before) a b w (last_is test before) e
  last_row_told (Some l) a b w e = row_told (last_with test before) l (last_is test before) e

  pub last_row_found : (o : Option LastRow) → IsLastRow test starts known t before o → last_row_of test starts known t before ≡ o
  unfolding last_row_of
  last_row_found None h = none_found (last_with test before) (last_is test before) h
  last_row_found (Some l) h =
      rw (stands_last test test known t before l.row h.0 h.1.passes h.1, known_live known l.row.at t h.1.all_known)
      (ap (λ f. Some (record { row = l.row; first = f })) (start_found starts h.0 l.first h.2))
