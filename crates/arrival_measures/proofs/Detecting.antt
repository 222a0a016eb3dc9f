-- The rows at which detectors go on, and what is sure of their faults, from one pass over an hour.
use Rattle.std.proofs.Common.{◌≡◌, ◌≢◌, ℕ, ◌+◌, ◌<◌, ◌≤◌, Bool, true, false, not, ◌&&◌, cond, eqb, ltb, List, [], ◌∷◌, ◌++◌, Option, Some, None, length, refl, ap, sym, ◌∙◌, arith}
use Rattle.std.specs.Prelude.{All, option_map, filter_map}
use Rattle.std.specs.List.{cons_option, filter}
use Rattle.std.proofs.lemmas.Bool.{and_parts, eq-eqb, ne_eqb, ltb-true}
use Rattle.sig_base.specs.declared.values.Row.{Row}
use Rattle.sig_base.proofs.Common.{and_false}
use Rattle.gap_map.specs.declared.stretch.Stretch.{Stretch}
use Rattle.hour_sweep.specs.Rows.{known_rows, last, last_with, since}
use Rattle.hour_sweep.specs.Hours.{IsHour, point}
use Rattle.hour_sweep.specs.Passes.{swept}
use Rattle.hour_sweep.specs.Numbers.{AreTracks, IsTracked, Tracking, outs_from, table, tracking_after, tracking_cleared}
use Rattle.hour_sweep.proofs.Known.{live_here, live_lost, live_same}
use Rattle.hour_sweep.proofs.Laws.{hour_tracked}
use Rattle.hour_sweep.proofs.Orders.{rise_ordered}
use Rattle.hour_sweep.proofs.Places.{AllLast, last-push, last_with_all}
use Rattle.ring_config.specs.Settings.{Settings}
use Rattle.arrival_measures.proofs.Counts.{and_true}
use Rattle.arrival_measures.specs.declared.faults.Flag.{Flag}
use Rattle.arrival_measures.specs.declared.faults.Detection.{Detection}
use Rattle.arrival_measures.specs.declared.faults.Detections.{Detections}
use Rattle.arrival_measures.specs.Faults.{arrivals_from, begins_fault, faults_from, faulty, faulty_since, is_of, is_own}
use Rattle.arrival_measures.specs.Crossing.{all_flags, flag_of, flags_of, has_detector}
use Rattle.arrival_measures.specs.Steps.{AreDetections, FlagsGoOn, arrival_in, detected_at, detected_by, fault_in, flag_after, flag_cleared, of_approaches}
use Rattle.arrival_measures.proofs.Padding.{short_few, short_room, short_table, whole_table}

-- ---- the flag of a detector, row by row

abbrev flag : Bool → Flag
flag v = record { fault = v }

after_row : (known : ℕ → Bool) (x : Row) (o : Option Row) (v : Bool) → faulty_since known x.at (cond v (Some x) o) ≡ cond v (begins_fault x.code) (faulty_since known x.at o)
after_row known x o true = ap (λ v. begins_fault x.code && v) (live_here known x.at x.at (omega arith)) ∙ and_true (begins_fault x.code)
after_row known x o false = refl

pub pushed : (known : ℕ → Bool) (before : List Row) (x : Row) → faulty known x.at (before ++ x ∷ []) x.param ≡ cond (is_own x.code) (begins_fault x.code) (faulty known x.at before x.param)
unfolding faulty
pushed known before x =
    let itself : is_of x.param x ≡ is_own x.code = ap (λ v. v && is_own x.code) (eq-eqb x.param x.param refl) in
    ap (λ o. faulty_since known x.at o) (last-push (is_of x.param) before x ∙ ap (λ v. cond v (Some x) (last (is_of x.param) before)) itself)
    ∙ after_row known x (last (is_of x.param) before) (is_own x.code)

pub passed : (known : ℕ → Bool) (p : ℕ) (before : List Row) (x : Row) → x.param ≢ p → faulty known x.at (before ++ x ∷ []) p ≡ faulty known x.at before p
unfolding faulty
passed known p before x ne =
    let other : is_of p x ≡ false = ap (λ v. v && is_own x.code) (ne_eqb x.param p ne) in
    ap (λ o. faulty_since known x.at o) (last-push (is_of p) before x ∙ ap (λ v. cond v (Some x) (last (is_of p) before)) other)

pub same_since : (known : ℕ → Bool) (t u : ℕ) (o : Option Row) → since known t ≡ since known u → faulty_since known t o ≡ faulty_since known u o
same_since known t u None e = refl
same_since known t u (Some x) e = ap (λ v. begins_fault x.code && v) (live_same known x.at t u e)

kept_on : (known : ℕ → Bool) (t u p : ℕ) (before : List Row) → since known t ≡ since known u → faulty known t before p ≡ faulty known u before p
unfolding faulty
kept_on known t u p before e = same_since known t u (last (is_of p) before) e

pub lost_since : (known : ℕ → Bool) (k u : ℕ) (o : Option (Row × List Row)) → AllLast (λ z. z.at ≤ k) o → k < u → known k ≡ false → faulty_since known u (option_map (λ f. f.0) o) ≡ false
lost_since known k u None h lt e = refl
lost_since known k u (Some f) h lt e = ap (λ v. begins_fault f.0.code && v) (live_lost known f.0.at k u h.0 lt e) ∙ and_false (begins_fault f.0.code)

lost_over : (known : ℕ → Bool) (k u p : ℕ) (before : List Row) → All (λ z. z.at ≤ k) before → k < u → known k ≡ false → faulty known u before p ≡ false
unfolding faulty
lost_over known k u p before low lt e = lost_since known k u (last_with (is_of p) before) (last_with_all (λ z. z.at ≤ k) (is_of p) before low) lt e

flag_tracks : (known : ℕ → Bool) → AreTracks known (flag_of known) flag_after flag_cleared (detected_at known) detected_by
flag_tracks known = record {
  push = λ before x low. ap flag (pushed known before x);
  other = λ p before x low ne. ap flag (passed known p before x ne);
  on = λ t u p before e. ap flag (kept_on known t u p before e);
  lost = λ k t u p before low lt e. ap flag (lost_over known k u p before low lt e);
  now = λ before x rest low. refl;
}

-- ---- those with a fault and those without

arrival_step : (P : Row → Bool) (h c f : Bool) (x : Row) (zs : List Detection) (ys : List Row) → P x ≡ h → filter_map arrival_in zs ≡ filter P ys → filter_map arrival_in (cons_option (cond h (cond c (Some (record { row = x; fault = f })) None) None) zs) ≡ filter P (cond (c && not f) (x ∷ ys) ys)
arrival_step P true true true x zs ys e ih = ih
arrival_step P true true false x zs ys e ih = rw e (ap (λ rs. x ∷ rs) ih)
arrival_step P true false f x zs ys e ih = ih
arrival_step P false true true x zs ys e ih = ih
arrival_step P false true false x zs ys e ih = rw e ih
arrival_step P false false f x zs ys e ih = ih

fault_step : (P : Row → Bool) (h c f : Bool) (x : Row) (zs : List Detection) (ys : List Row) → P x ≡ h → filter_map fault_in zs ≡ filter P ys → filter_map fault_in (cons_option (cond h (cond c (Some (record { row = x; fault = f })) None) None) zs) ≡ filter P (cond (c && f) (x ∷ ys) ys)
fault_step P true true false x zs ys e ih = ih
fault_step P true true true x zs ys e ih = rw e (ap (λ rs. x ∷ rs) ih)
fault_step P true false f x zs ys e ih = ih
fault_step P false true false x zs ys e ih = ih
fault_step P false true true x zs ys e ih = rw e ih
fault_step P false false f x zs ys e ih = ih

arrivals_split : (known has : ℕ → Bool) (before xs : List Row) → filter_map arrival_in (outs_from (detected_at known) has before xs) ≡ filter (λ x. has x.param) (arrivals_from known before xs)
arrivals_split known has before [] = refl
arrivals_split known has before (x ∷ xs) = arrival_step (λ z. has z.param) (has x.param) (eqb x.code 82) (faulty known x.at before x.param) x (outs_from (detected_at known) has (before ++ x ∷ []) xs) (arrivals_from known (before ++ x ∷ []) xs) refl (arrivals_split known has (before ++ x ∷ []) xs)

faults_split : (known has : ℕ → Bool) (before xs : List Row) → filter_map fault_in (outs_from (detected_at known) has before xs) ≡ filter (λ x. has x.param) (faults_from known before xs)
faults_split known has before [] = refl
faults_split known has before (x ∷ xs) = fault_step (λ z. has z.param) (has x.param) (eqb x.code 82) (faulty known x.at before x.param) x (outs_from (detected_at known) has (before ++ x ∷ []) xs) (faults_from known (before ++ x ∷ []) xs) refl (faults_split known has (before ++ x ∷ []) xs)

-- ---- the hour

pub room : (c : Settings) (p : ℕ) → has_detector c p ≡ true → p < 129
room c p e = ltb-true p 129 (and_parts (ltb p 129) _ e).0

tracked : (known : ℕ → Bool) (c : Settings) (n : ℕ) (within : (p : ℕ) → has_detector c p ≡ true → p < n) (before : List Row) (hour : ℕ) (rows : List Row) (ss : List Stretch) (flags : List (Option Flag)) (end : Tracking Flag Detection) → end ≡ swept (tracking_after flag_after detected_by) (tracking_cleared flag_cleared) ss rows (record { parts = flags; outs = [] }) → IsHour known hour rows ss → All (λ x. x.at < point hour) before → flags ≡ table (has_detector c) n (flag_of known (point hour) before) → IsTracked known (flag_of known) (detected_at known) (has_detector c) n before rows (point hour + 36000) end.outs end.parts
tracked known c n within before hour rows ss flags end e h low at =
    let or = rise_ordered (point hour) (point hour + 36000) rows (omega arith) h.are_rows.rise in
    hour_tracked known (flag_of known) flag_after flag_cleared (detected_at known) detected_by (flag_tracks known) (has_detector c) n within before (point hour) (point hour + 36000) rows ss flags end e h.are_stretches or low at

pub detected : (known : ℕ → Bool) (c : Settings) (before : List Row) (hour : ℕ) (rows : List Row) (ss : List Stretch) (flags : List (Option Flag)) (end : Tracking Flag Detection) → end ≡ swept (tracking_after flag_after detected_by) (tracking_cleared flag_cleared) ss rows (record { parts = flags; outs = [] }) → IsHour known hour rows ss → All (λ x. x.at < point hour) before → all_flags flags ≡ flags_of known c (point hour) before → IsTracked known (flag_of known) (detected_at known) (has_detector c) (length flags) before rows (point hour + 36000) end.outs end.parts
detected known c before hour rows ss flags end e h low at =
    let f = flag_of known (point hour) before in
    tracked known c (length flags) (short_room (has_detector c) f (room c) flags at) before hour rows ss flags end e h low (short_table (has_detector c) f (room c) flags at)

pub detections_are : (known : ℕ → Bool) (c : Settings) (n : ℕ) (before : List Row) (hour : ℕ) (rows : List Row) (outs : List Detection) (parts : List (Option Flag)) (d : Detections) → IsTracked known (flag_of known) (detected_at known) (has_detector c) n before rows (point hour + 36000) outs parts → d.arrivals.items ≡ filter_map arrival_in outs → d.faults.items ≡ filter_map fault_in outs → AreDetections known c before (known_rows known rows) d
detections_are known c n before hour rows outs parts d is a f = record {
  arrivals = a ∙ ap (λ zs. filter_map arrival_in zs) is.outs_are ∙ arrivals_split known (has_detector c) before (known_rows known rows);
  faults = f ∙ ap (λ zs. filter_map fault_in zs) is.outs_are ∙ faults_split known (has_detector c) before (known_rows known rows);
}

-- the flags at the point after the hour, from those at the point before it
pub flags_go_on : (rows : List Row) (ss : List Stretch) (flags : List (Option Flag)) (end : Tracking Flag Detection) → end ≡ swept (tracking_after flag_after detected_by) (tracking_cleared flag_cleared) ss rows (record { parts = flags; outs = [] }) → FlagsGoOn rows ss flags end.parts
flags_go_on rows ss flags end e known c before hour h low at =
    let is = detected known c before hour rows ss flags end e h low at in
    let told = before ++ known_rows known rows in
    let f = flag_of known (point hour) before in
    ap (λ zs. all_flags zs) is.parts_are
    ∙ whole_table (has_detector c) (flag_of known (point hour + 36000) told) (length flags) (short_few (has_detector c) f (room c) flags at) (short_room (has_detector c) f (room c) flags at)
    ∙ ap (λ t. flags_of known c t told) (let e : point hour + 36000 ≡ point (hour + 1) = omega arith in e)

-- the arrivals of the hour are told by the flags at the point before it
pub arrivals_by : (known : ℕ → Bool) (c : Settings) (before : List Row) (hour : ℕ) (rows : List Row) (ss : List Stretch) (flags : List (Option Flag)) → IsHour known hour rows ss → All (λ x. x.at < point hour) before → flags ≡ flags_of known c (point hour) before → of_approaches c (arrivals_from known before (known_rows known rows)) ≡ filter_map arrival_in (swept (tracking_after flag_after detected_by) (tracking_cleared flag_cleared) ss rows (record { parts = flags; outs = [] })).outs
arrivals_by known c before hour rows ss flags h low at =
    let end : Tracking Flag Detection = swept (tracking_after flag_after detected_by) (tracking_cleared flag_cleared) ss rows (record { parts = flags; outs = [] }) in
    let is = tracked known c 129 (room c) before hour rows ss flags end refl h low at in
    sym (ap (λ zs. filter_map arrival_in zs) is.outs_are ∙ arrivals_split known (has_detector c) before (known_rows known rows))
