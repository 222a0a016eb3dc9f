-- An hour without rows of detectors gives nothing of them, and leaves each flag as it is, where no tenth is unknown or no flag tells of a fault.
use Rattle.std.proofs.Common.{◌≡◌, ℕ, Bool, true, false, not, ◌&&◌, ◌||◌, ltb, List, [], ◌∷◌, Option, Some, None, map, length, drop, refl, ap, sym, subst, ◌∙◌, inl, inr}
use Rattle.std.specs.Prelude.{option_map}
use Rattle.std.specs.List.{list_all}
use Rattle.std.proofs.lemmas.Bool.{and_from, and_parts, cases_Bool, cond-true, cond-false}
use Rattle.std.proofs.lemmas.List.Sums.{take_while-cons}
use Rattle.sig_base.specs.declared.values.Row.{Row}
use Rattle.sig_base.proofs.Common.{and_false, clash}
use Rattle.gap_map.specs.declared.stretch.Stretch.{Stretch}
use Rattle.hour_sweep.specs.Passes.{back, front, swept, swept_rows, swept_stretch}
use Rattle.hour_sweep.specs.Numbers.{Tracking, tracking_after, tracking_cleared}
use Rattle.hour_sweep.proofs.Tables.{passed_over}
use Rattle.arrival_measures.specs.declared.faults.Flag.{Flag}
use Rattle.arrival_measures.specs.declared.faults.Detection.{Detection}
use Rattle.arrival_measures.specs.Faults.{is_own}
use Rattle.arrival_measures.specs.Passing.{others_pass}
use Rattle.arrival_measures.specs.Steps.{detected_by, flag_after, flag_cleared, is_clear, is_quiet}

pub unset : (b : Bool) → not b ≡ true → b ≡ false
unset true e = sym e
unset false e = refl

other_one : (a b : Bool) → (a || b) ≡ true → a ≡ false → b ≡ true
other_one true b e n = absurd (clash true refl n)
other_one false b e n = e

-- ---- what all rows pass, those of a stretch and those after it pass

abbrev Parts : (Row → Bool) → List Row → List Row → Type 0
Parts p xs f = (list_all p f ≡ true) × (list_all p (drop (length f) xs) ≡ true)

parts_pass : (p : Row → Bool) (t : ℕ) (xs : List Row) → list_all p xs ≡ true → Parts p xs (front t xs)
parts_pass p t [] e = (refl, refl)
parts_pass p t (x ∷ xs) e =
    let step = take_while-cons (λ (z : Row). ltb z.at t) x xs in
    let both = and_parts (p x) (list_all p xs) e in
    let more = parts_pass p t xs both.1 in
    elim (cases_Bool (ltb x.at t)) [
      | inl v ↦ subst (λ (f : List Row). Parts p (x ∷ xs) f) (sym (step ∙ cond-true (ltb x.at t) (x ∷ front t xs) [] v)) (and_from (p x) (list_all p (front t xs)) both.0 more.0, more.1)
      | inr v ↦ subst (λ (f : List Row). Parts p (x ∷ xs) f) (sym (step ∙ cond-false (ltb x.at t) (x ∷ front t xs) [] v)) (refl, e)
    ]

-- ---- the pass over the hour

abbrev is_other : Row → Bool
is_other x = not (is_own x.code)

abbrev flag : Bool → Flag
flag v = record { fault = v }

cleared_same : (flags : List (Option Flag)) → list_all is_clear flags ≡ true → map (option_map flag_cleared) flags ≡ flags
cleared_same [] e = refl
cleared_same (None ∷ flags) e = ap (λ zs. None ∷ zs) (cleared_same flags e)
cleared_same (Some f ∷ flags) e =
    let both = and_parts (not f.fault) (list_all is_clear flags) e in
    ap (λ v. Some (flag v) ∷ map (option_map flag_cleared) flags) (sym (unset f.fault both.0))
    ∙ ap (λ zs. Some f ∷ zs) (cleared_same flags both.1)

module _ (flags : List (Option Flag)) where
  abbrev begin : Tracking Flag Detection
  begin = record { parts = flags; outs = [] }

  rows_pass : (xs : List Row) → list_all is_other xs ≡ true → swept_rows (tracking_after flag_after detected_by) xs begin ≡ begin
  rows_pass [] e = refl
  rows_pass (x ∷ xs) e =
      let both = and_parts (is_other x) (list_all is_other xs) e in
      ap (λ s. swept_rows (tracking_after flag_after detected_by) xs s) (passed_over is_own flag_after detected_by begin x others_pass (unset (is_own x.code) both.0))
      ∙ rows_pass xs both.1

  stretch_passes : (v : Bool) (xs : List Row) → list_all is_other xs ≡ true → (v ≡ false → list_all is_clear flags ≡ true) → swept_stretch (tracking_after flag_after detected_by) (tracking_cleared flag_cleared) v xs begin ≡ begin
  stretch_passes true xs e h = rows_pass xs e
  stretch_passes false xs e h = ap (λ ps. let s : Tracking Flag Detection = record { parts = ps; outs = [] } in s) (cleared_same flags (h refl))

  hour_passes : (ss : List Stretch) (xs : List Row) → list_all is_other xs ≡ true → (list_all (λ s. s.known) ss ≡ false → list_all is_clear flags ≡ true) → swept (tracking_after flag_after detected_by) (tracking_cleared flag_cleared) ss xs begin ≡ begin
  hour_passes [] xs e h = refl
  hour_passes (t ∷ ts) xs e h =
      let parts = parts_pass is_other t.to xs e in
      ap (λ s. swept (tracking_after flag_after detected_by) (tracking_cleared flag_cleared) ts (back t.to xs) s)
      (stretch_passes t.known (front t.to xs) parts.0 (λ n. h (ap (λ v. v && list_all (λ s. s.known) ts) n)))
      ∙ hour_passes ts (back t.to xs) parts.1 (λ n. h (ap (λ v. t.known && v) n ∙ and_false t.known))

  pub quiet_passes : (rows : List Row) (ss : List Stretch) → is_quiet flags rows ss ≡ true → swept (tracking_after flag_after detected_by) (tracking_cleared flag_cleared) ss rows begin ≡ begin
  quiet_passes rows ss e =
      let both = and_parts (list_all is_other rows) (list_all (λ s. s.known) ss || list_all is_clear flags) e in
      hour_passes ss rows both.0 (other_one (list_all (λ s. s.known) ss) (list_all is_clear flags) both.1)
