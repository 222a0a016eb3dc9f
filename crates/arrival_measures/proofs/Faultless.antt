-- An hour in which no detector is sure to have a fault: each row at which one goes on is an arrival, and each flag stays as it is.
use Rattle.std.proofs.Common.{◌≡◌, ℕ, zero, suc, ◌+◌, ◌≤◌, Bool, true, false, not, ◌&&◌, cond, eqb, List, [], ◌∷◌, ◌++◌, Option, Some, None, append_assoc, get_or, refl, ap, sym, ◌∙◌, arith, inl, inr}
use Rattle.std.specs.List.{filter, list_all}
use Rattle.std.proofs.lemmas.Bool.{and_from, and_parts, cases_eq, eqb-true, leb-false, lt-leb}
use Rattle.std.proofs.lemmas.List.{append-nil}
use Rattle.sig_base.specs.declared.values.Row.{Row}
use Rattle.gap_map.specs.declared.stretch.Stretch.{Stretch}
use Rattle.hour_sweep.specs.Rows.{known_rows, last, live, since}
use Rattle.hour_sweep.specs.Hours.{AreOrdered, IsHour, point}
use Rattle.hour_sweep.proofs.Known.{since_le}
use Rattle.hour_sweep.proofs.Tables.{table_at, table_same}
use Rattle.ring_config.specs.Settings.{Settings}
use Rattle.arrival_measures.specs.declared.faults.Flag.{Flag}
use Rattle.arrival_measures.specs.Arrivals.{is_on, ons_of}
use Rattle.arrival_measures.specs.Crossing.{all_flags, flag_of, flags_of, has_detector}
use Rattle.arrival_measures.specs.Faults.{arrivals_from, begins_fault, faulty, faulty_since, is_of, is_own}
use Rattle.arrival_measures.specs.Steps.{is_clear, is_faultless, is_harmless}
use Rattle.arrival_measures.proofs.Detecting.{passed, pushed, room}
use Rattle.arrival_measures.proofs.Hours.{hour_ordered}
use Rattle.arrival_measures.proofs.Padding.{told_at}
use Rattle.arrival_measures.proofs.Quiet.{unset}
use Rattle.arrival_measures.proofs.Travels.{kept_ordered}

-- ---- where nothing tells of a fault, nothing does later

since_rises : (known : ℕ → Bool) (t u : ℕ) → t ≤ u → since known t ≤ since known u
since_rises known t zero le = let e : t ≡ zero = omega arith in rw e (omega arith)
since_rises known t (suc u) le = elim (cases_eq t (suc u)) [
  | inl e ↦ rw e (omega arith)
  | inr ne ↦
      let less = since_rises known t u (omega arith) in
      let low = since_le known t in
      elim (known u) as (λ v. since known t ≤ cond v (since known u) (suc u)) [ true ↦ less | false ↦ omega arith ]
]

live_less : (known : ℕ → Bool) (a t u : ℕ) → t ≤ u → live known a t ≡ false → live known a u ≡ false
unfolding live
live_less known a t u le e =
    let rises = since_rises known t u le in
    let lt = leb-false (since known t) a e in
    lt-leb (since known u) a (omega arith)

since_clear : (known : ℕ → Bool) (t u : ℕ) (o : Option Row) → t ≤ u → faulty_since known t o ≡ false → faulty_since known u o ≡ false
since_clear known t u None le e = refl
since_clear known t u (Some x) le e = step (begins_fault x.code) (live known x.at t) (live known x.at u) (live_less known x.at t u le) e
  where
    step : (b v w : Bool) → (v ≡ false → w ≡ false) → (b && v) ≡ false → (b && w) ≡ false
    step true v w h e = h e
    step false v w h e = refl

later_clear : (known : ℕ → Bool) (t u d : ℕ) (before : List Row) → t ≤ u → faulty known t before d ≡ false → faulty known u before d ≡ false
unfolding faulty
later_clear known t u d before le e = since_clear known t u (last (is_of d) before) le e

-- ---- of one detector, row by row

harmless_step : (own begins fault : Bool) → not (own && begins) ≡ true → fault ≡ false → cond own begins fault ≡ false
harmless_step true true fault h e = absurd (cc)
harmless_step true false fault h e = refl
harmless_step false begins fault h e = e

ons_step : (P : Row → Bool) (c p fault : Bool) (x : Row) (zs ys : List Row) → P x ≡ (c && p) → (p ≡ true → fault ≡ false) → filter P zs ≡ ys → filter P (cond (c && not fault) (x ∷ zs) zs) ≡ cond (c && p) (x ∷ ys) ys
ons_step P true true fault x zs ys e h ih = rw (h refl, e) (ap (λ rs. x ∷ rs) ih)
ons_step P true false true x zs ys e h ih = ih
ons_step P true false false x zs ys e h ih = rw e ih
ons_step P false p fault x zs ys e h ih = ih

module _ (known : ℕ → Bool) (d : ℕ) where
  stays_clear : (before : List Row) (x : Row) → is_harmless x ≡ true → faulty known x.at before d ≡ false → faulty known x.at (before ++ x ∷ []) d ≡ false
  stays_clear before x h f = elim (cases_eq x.param d) [
    | inl e ↦
        ap (λ n. faulty known x.at (before ++ x ∷ []) n) (sym e)
        ∙ pushed known before x
        ∙ harmless_step (is_own x.code) (begins_fault x.code) (faulty known x.at before x.param) h (ap (λ n. faulty known x.at before n) e ∙ f)
    | inr ne ↦ passed known d before x ne ∙ f
  ]

  all_arrive : (t end : ℕ) (before xs : List Row) → AreOrdered t end xs → list_all is_harmless xs ≡ true → faulty known t before d ≡ false → (ons_of d (arrivals_from known before xs) ≡ ons_of d xs) × (faulty known end (before ++ xs) d ≡ false)
  all_arrive t end before [] or h f = (refl, rw (append-nil before) (later_clear known t end d before or f))
  all_arrive t end before (x ∷ xs) or h f =
      let both = and_parts (is_harmless x) (list_all is_harmless xs) h in
      let here = later_clear known t x.at d before or.0 f in
      let more = all_arrive x.at end (before ++ x ∷ []) xs or.2 both.1 (stays_clear before x both.0 here) in (
        ons_step (is_on d) (eqb x.code 82) (eqb x.param d) (faulty known x.at before x.param) x (arrivals_from known (before ++ x ∷ []) xs) (ons_of d xs) refl (λ p. ap (λ n. faulty known x.at before n) (eqb-true x.param d p) ∙ here) more.0,
        ap (λ zs. faulty known end zs d) (sym (append_assoc before (x ∷ []) xs)) ∙ more.1,
      )

-- ---- the hour

abbrev no_one : Option Flag
no_one = None

clear_at : (flags : List (Option Flag)) (i : ℕ) → list_all is_clear flags ≡ true → is_clear (get_or flags i no_one) ≡ true
clear_at [] i e = refl
clear_at (f ∷ fs) zero e = (and_parts (is_clear f) (list_all is_clear fs) e).0
clear_at (f ∷ fs) (suc i) e = clear_at fs i (and_parts (is_clear f) (list_all is_clear fs) e).1

harmless_kept : (known : ℕ → Bool) (xs : List Row) → list_all is_harmless xs ≡ true → list_all is_harmless (known_rows known xs) ≡ true
harmless_kept known [] e = refl
harmless_kept known (x ∷ xs) e =
    let both = and_parts (is_harmless x) (list_all is_harmless xs) e in
    let more = harmless_kept known xs both.1 in
    elim (known x.at) as (λ v. list_all is_harmless (cond v (x ∷ known_rows known xs) (known_rows known xs)) ≡ true) [ true ↦ and_from (is_harmless x) (list_all is_harmless (known_rows known xs)) both.0 more | false ↦ more ]

module _ (known : ℕ → Bool) (c : Settings) (before : List Row) (hour : ℕ) (rows : List Row) (ss : List Stretch) (flags : List (Option Flag)) (is_hour : IsHour known hour rows ss) (told : all_flags flags ≡ flags_of known c (point hour) before) (none : is_faultless flags rows ≡ true) where
  parts : (list_all is_clear flags ≡ true) × (list_all is_harmless rows ≡ true)
  parts = and_parts (list_all is_clear flags) (list_all is_harmless rows) none

  clear_first : (d : ℕ) → has_detector c d ≡ true → faulty known (point hour) before d ≡ false
  clear_first d has =
      let at : get_or flags d no_one ≡ Some (flag_of known (point hour) before d) =
      sym (told_at flags d) ∙ ap (λ zs. get_or zs d no_one) told ∙ table_at (has_detector c) 129 d (flag_of known (point hour) before) has (room c d has) in
      unset (faulty known (point hour) before d) (ap (λ o. is_clear o) (sym at) ∙ clear_at flags d parts.0)

  of_hour : (d : ℕ) → has_detector c d ≡ true → (ons_of d (arrivals_from known before (known_rows known rows)) ≡ ons_of d (known_rows known rows)) × (faulty known (point hour + 36000) (before ++ known_rows known rows) d ≡ false)
  of_hour d has = all_arrive known d (point hour) (point hour + 36000) before (known_rows known rows) (kept_ordered (λ x. known x.at) (point hour) (point hour + 36000) (point hour) rows (omega arith) (hour_ordered known hour rows ss is_hour)) (harmless_kept known rows parts.1) (clear_first d has)

  pub ons_all : (d : ℕ) → has_detector c d ≡ true → ons_of d (known_rows known rows) ≡ ons_of d (arrivals_from known before (known_rows known rows))
  ons_all d has = sym (of_hour d has).0

  pub flags_stay : all_flags flags ≡ flags_of known c (point (hour + 1)) (before ++ known_rows known rows)
  flags_stay =
      let end : point hour + 36000 ≡ point (hour + 1) = omega arith in
      told
      ∙ table_same (has_detector c) 129 (flag_of known (point hour) before) (flag_of known (point hour + 36000) (before ++ known_rows known rows))
      (λ d has. ap (λ v. let z : Flag = record { fault = v } in z) (clear_first d has ∙ sym (of_hour d has).1))
      ∙ ap (λ t. flags_of known c t (before ++ known_rows known rows)) end
