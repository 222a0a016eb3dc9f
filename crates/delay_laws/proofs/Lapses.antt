-- How long something ran up to a tenth.
use Rattle.std.proofs.Common.{◌≡◌, ◌∙◌, ◌-◌, ◌↔◌, ℕ, ◌≤◌, Bool, true, List, ◌∷◌, ◌++◌, Option, Some, None, refl, ap, sym, arith}
use Rattle.std.specs.Prelude.{All}
use Rattle.std.proofs.lemmas.List.Elements.{All-same}
use Rattle.sig_base.specs.declared.values.Row.{Row}
use Rattle.hour_sweep.specs.Hours.{AreOrdered}
use Rattle.other_measures.specs.declared.last_rows.LastRow.{LastRow}
use Rattle.other_measures.specs.LastRows.{last_row_of, lapse_of, since_first}
use Rattle.other_measures.specs.Sums.{is_not_begun, is_partial, ran}
use Rattle.delay_laws.specs.Standing.{HasNotBegun, HasRun, IsLastRow, IsStart, NoneStands, Stands}
use Rattle.delay_laws.proofs.Standing.{all_at, last_row_found, last_row_told}

module _ (test starts : Row → Bool) (known : ℕ → Bool) (t : ℕ) (before : List Row) where
  first_ran : (x : Row) (after : List Row) (first : Option Row) (n : ℕ) → All (λ z. z.at ≤ t) before → Stands test test known t before x after → IsStart starts after first → ran (since_first t first) ≡ Some n → HasRun test starts known t before n
  first_ran x after None n low s i e = cc
  first_ran x after (Some y) n low s i e =
      let P : Row → Type 0 = λ z. z.at ≤ t in
      let later = (all_at P s.to_x x after (All-same P (s.to_x ++ x ∷ after) before (sym s.joined) low)).1 in
      let le : y.at ≤ t = (all_at P i.0 y i.1 (All-same P (i.0 ++ y ∷ i.1) after (sym i.2.joined) later)).0 in
      let same : t - y.at ≡ n = cc in
      record { x = x; since = after; y = y; last = s; first = i; tenths = omega arith }

  ran_told : (o : Option LastRow) (n : ℕ) → All (λ z. z.at ≤ t) before → IsLastRow test starts known t before o → ran (lapse_of t o) ≡ Some n → HasRun test starts known t before n
  ran_told None n low h e = cc
  ran_told (Some w) n low h e = first_ran w.row h.0 w.first n low h.1 h.2 e

  ran_found : (n : ℕ) → HasRun test starts known t before n → ran (lapse_of t (last_row_of test starts known t before)) ≡ Some n
  ran_found n h =
      let start = h.tenths in
      let ends : t - h.y.at ≡ n = omega arith in
      ap (λ o. ran (lapse_of t o)) (last_row_found test starts known t before (Some (record { row = h.x; first = Some h.y })) (h.since, h.last, h.first)) ∙ ap Some ends

  first_waits : (x : Row) (after : List Row) (first : Option Row) → Stands test test known t before x after → IsStart starts after first → is_not_begun (since_first t first) ≡ true → HasNotBegun test starts known t before
  first_waits x after None s i e = record { x = x; since = after; last = s; first = i }
  first_waits x after (Some y) s i e = cc

  not_begun_told : (o : Option LastRow) → IsLastRow test starts known t before o → is_not_begun (lapse_of t o) ≡ true → HasNotBegun test starts known t before
  not_begun_told None h e = cc
  not_begun_told (Some w) h e = first_waits w.row h.0 w.first h.1 h.2 e

  not_begun_found : HasNotBegun test starts known t before → is_not_begun (lapse_of t (last_row_of test starts known t before)) ≡ true
  not_begun_found h = ap (λ o. is_not_begun (lapse_of t o)) (last_row_found test starts known t before (Some (record { row = h.x; first = None })) (h.since, h.last, h.first))

  first_whole : (first : Option Row) → is_partial (since_first t first) ≡ true → ⊥
  first_whole None e = cc
  first_whole (Some y) e = cc

  partial_told : (o : Option LastRow) → IsLastRow test starts known t before o → is_partial (lapse_of t o) ≡ true → NoneStands test known t before
  partial_told None h e = h
  partial_told (Some w) h e = absurd (first_whole w.first e)

  partial_found : NoneStands test known t before → is_partial (lapse_of t (last_row_of test starts known t before)) ≡ true
  partial_found h = ap (λ o. is_partial (lapse_of t o)) (last_row_found test starts known t before None h)

  module _ (a b : ℕ) (w : AreOrdered a b before) where
    pub ran_is : (n : ℕ) → All (λ z. z.at ≤ t) before → (ran (lapse_of t (last_row_of test starts known t before)) ≡ Some n) ↔ HasRun test starts known t before n
    ran_is n low = (ran_told (last_row_of test starts known t before) n low (last_row_told test starts known t before (last_row_of test starts known t before) a b w refl), ran_found n)

    pub not_begun_is : (is_not_begun (lapse_of t (last_row_of test starts known t before)) ≡ true) ↔ HasNotBegun test starts known t before
    not_begun_is = (not_begun_told (last_row_of test starts known t before) (last_row_told test starts known t before (last_row_of test starts known t before) a b w refl), not_begun_found)

    pub partial_is : (is_partial (lapse_of t (last_row_of test starts known t before)) ≡ true) ↔ NoneStands test known t before
    partial_is = (partial_told (last_row_of test starts known t before) (last_row_told test starts known t before (last_row_of test starts known t before) a b w refl), partial_found)
