-- The numbers of whole cycles in a report are those that all histories tell.
use Rattle.std.proofs.Common.{◌≡◌, ◌∙◌, refl, ap, sym, subst, ℕ, zero, suc, ◌+◌, ◌<◌, Bool, false, nat_le, nat_lt, eqb, Option, Some, None, List, [], ◌∷◌, ◌++◌, length, get_or, map, append_assoc, inr, arith}
use Rattle.std.specs.Prelude.{All}
use Rattle.std.specs.List.{filter}
use Rattle.std.proofs.lemmas.Bool.{and_parts, eqb-true, ltb-true}
use Rattle.std.proofs.lemmas.List.{append-nil, get_or-map, length-map}
use Rattle.std.proofs.lemmas.List.Elements.{All-append, All-filter, All-head, All-nil, All-tail, filter_passes}
use Rattle.sig_base.specs.declared.values.Row.{Row}
use Rattle.board.specs.Channels.{AreSpecs}
use Rattle.hour_store.specs.Store.{IsStore, Store, is_known, known_rows}
use Rattle.hour_sweep.specs.Hours.{point}
use Rattle.ring_config.specs.Settings.{Settings, spec_place}
use Rattle.ring_config.specs.declared.items.Approach.{Approach}
use Rattle.signal_log.specs.Log.{HasHistory, log_of}
use Rattle.stop_bar.specs.Lists.{Each}
use Rattle.service_cut.specs.declared.items.Cycle.{Cycle}
use Rattle.service_cut.specs.Cut.{cycle_is_in, cycles_from}
use Rattle.service_cut.proofs.HourLists.{cycles_add, cycles_count}
use Rattle.arrival_measures.specs.Arrivals.{ons_of, rows_within}
use Rattle.arrival_measures.specs.Green.{green_arrivals_in, green_tenths_in, greens, shows_green}
use Rattle.arrival_measures.specs.declared.sums.ArrivalSum.{ArrivalSum}
use Rattle.arrival_measures.specs.Cycles.{CycleNumbers, numbers_of}
use Rattle.arrival_measures.specs.Judged.{CountOf, phase_channel}
use Rattle.arrival_measures.specs.Hours.{HasArrivals, HaveCycles, cycle_numbers, cycle_part, cycles_of, no_sum}
use Rattle.arrival_measures.specs.Travel.{told}
use Rattle.detector_state.specs.Ranges.{Counts}
use Rattle.arrival_measures.proofs.Telling.{within-append}
use Rattle.hour_work.specs.Rows.{earlier_rows, own_rows}
use Rattle.hour_work.specs.Measures.{MayBeIn, cycles_in, over_hours}
use Rattle.hour_work.specs.Numbers.{Numbers, total_of}
use Rattle.hour_work.specs.Reports.{IsReport}
use Rattle.hour_work.proofs.ColourLaws.{none_within}
use Rattle.hour_work.proofs.Totals.{log_total}
use Rattle.hour_work.proofs.WholeLog.{earlier_ordered, hour_within, over_log, own_ordered}
use Rattle.measure_laws.specs.Green.{AreCycleSums, HaveCycleSums, HourGreen, IsGreenAt, TotalGreen}
use Rattle.measure_laws.proofs.OpenGreen.{told_shows}
use Rattle.measure_laws.proofs.GreenNumbers.{ShowsGreen, counts_green, hour_shows, shows_same}
use Rattle.measure_laws.proofs.Totals.{each_of_places}

-- ---- the cycles of the whole log

over_each : {X : Type 0} (P : X → Type 0) (of : ℕ → List X) (n : ℕ) → ((hour : ℕ) → hour < n → All P (of hour)) → All P (over_hours of n)
over_each P of zero h = All-nil P
over_each P of (suc n) h = All-append P (over_hours of n) (of n) (over_each P of n (λ hour lt. h hour (omega arith))) (h n (omega arith))

module _ (c : Settings) (s : Store) (specs : AreSpecs c.specs) (store : IsStore s) (has : HasHistory (log_of c.specs s)) where
  -- each cycle of an hour ends before its end
  ends_in : (hour : ℕ) → hour < length s.hours → All (λ (x : Cycle). x.to < point (hour + 1)) (cycles_in c s hour)
  ends_in hour lt =
      let w = hour_within s hour store lt in
      let all = cycles_from (is_known s) c.phases [] (earlier_rows s hour ++ (own_rows s hour ++ w.later)) in
      let test = cycle_is_in (point hour) (point (hour + 1)) in
      let kept : filter test all ≡ cycles_in c s hour = cycles_count (is_known s) c.phases (point hour) (point (hour + 1)) (point (length s.hours)) (earlier_rows s hour) (own_rows s hour) w.later (earlier_ordered s hour store (omega arith)) (own_ordered s hour store) w.order in
      subst (λ (xs : List Cycle). All (λ (x : Cycle). x.to < point (hour + 1)) xs) kept (λ k d some. let x = get_or (filter test all) k d in ltb-true x.to (point (hour + 1)) (and_parts (nat_le (point hour) x.to) (nat_lt x.to (point (hour + 1))) (filter_passes test all k d some)).1)

  -- later rows tell nothing of it
  rows_cut : (hour p a t : ℕ) → hour < length s.hours → t < point (hour + 1) → shows_green p a (known_rows s) t ≡ shows_green p a (earlier_rows s hour ++ own_rows s hour) t
  unfolding shows_green
  rows_cut hour p a t lt low =
      let w = hour_within s hour store lt in
      let both = earlier_rows s hour ++ own_rows s hour in
      ap (λ zs. greens p false zs)
      (ap (λ zs. rows_within a (t + 1) zs) (w.parts ∙ sym (append_assoc (earlier_rows s hour) (own_rows s hour) w.later))
      ∙ (within-append a (t + 1) both w.later
      ∙ (ap (λ zs. rows_within a (t + 1) both ++ zs) (none_within a (t + 1) (point (hour + 1)) (point (length s.hours)) w.later (omega arith) w.order)
      ∙ append-nil (rows_within a (t + 1) both))))

  each_shows : (hour : ℕ) → hour < length s.hours → All (ShowsGreen c s (earlier_rows s hour ++ own_rows s hour)) (cycles_in c s hour)
  each_shows hour lt = λ n d some. hour_shows c s hour n d specs store has lt some

  each_shows_all : (hour : ℕ) → hour < length s.hours → All (ShowsGreen c s (known_rows s)) (cycles_in c s hour)
  each_shows_all hour lt = λ n d some.
      let x = get_or (cycles_in c s hour) n d in
      let end = ends_in hour lt n d some in
      shows_same c s (earlier_rows s hour ++ own_rows s hour) (known_rows s) x (λ t hi. rows_cut hour x.phase x.from t lt (omega arith)) (each_shows hour lt n d some)

  log_shows : All (ShowsGreen c s (known_rows s)) (cycles_from (is_known s) c.phases [] (known_rows s))
  log_shows = subst (λ (xs : List Cycle). All (ShowsGreen c s (known_rows s)) xs) (over_log (cycles_from (is_known s) c.phases) s store refl (cycles_add (is_known s) c.phases)) (over_each (ShowsGreen c s (known_rows s)) (cycles_in c s) (length s.hours) each_shows_all)

-- ---- the numbers of some cycles

each_map : {X Y : Type 0} (R : X → Y → Type 0) (f : X → Y) (xs : List X) → All (λ x. R x (f x)) xs → Each R xs (map f xs)
each_map R f [] h = tt
each_map R f (x ∷ xs) h = (All-head (λ z. R z (f z)) x xs h, each_map R f xs (All-tail (λ z. R z (f z)) x xs h))

abbrev HasPlace : Settings → ℕ → Type 0
HasPlace c p = (i : ℕ) × (spec_place c.specs (phase_channel p) ≡ Some i)

module _ (c : Settings) (s : Store) (before rows : List Row) (shows : All (ShowsGreen c s (before ++ rows)) (cycles_from (is_known s) c.phases before rows)) where
  sums_are : (a : Approach) (d : ℕ) → HasPlace c a.phase → AreCycleSums c s a.phase d (told (is_known s) a.phase d a.travel (before ++ rows)) (cycles_of (is_known s) c a.phase before rows) (cycle_numbers (is_known s) c before rows a (Some d))
  unfolding numbers_of
  sums_are a d (i, at) =
      let known = is_known s in
      let p = a.phase in
      let base = before ++ rows in
      let seen = told known p d a.travel base in
      let all = cycles_from known c.phases before rows in
      let mine : Cycle → Bool = λ x. eqb x.phase p in
      let cs = filter mine all in
      let kept = All-filter mine (ShowsGreen c s base) all shows in
      let is_mine : (k : ℕ) (e : Cycle) → k < length cs → (get_or cs k e).phase ≡ p = λ k e lt. eqb-true (get_or cs k e).phase p (filter_passes mine all k e lt) in
      let same : (k : ℕ) (e : Cycle) → k < length cs → ShowsGreen c s seen (get_or cs k e) = λ k e lt.
      let x = get_or cs k e in
      shows_same c s base seen x (λ t hi. told_shows known x.phase x.from t base seen (inr (d, a.travel, ap (λ (q : ℕ). told known q d a.travel base) (sym (is_mine k e lt))))) (kept k e lt) in
      let numbers = λ (k : ℕ) (e : Cycle) (lt : k < length cs). counts_green c s seen i (get_or cs k e) (subst (λ (q : ℕ). spec_place c.specs (phase_channel q) ≡ Some i) (sym (is_mine k e lt)) at) (same k e lt) in
      record {
        place = i;
        is_place = at;
        greens = map (λ x. green_arrivals_in p d x.from x.to seen) cs;
        are_greens = each_map (λ x k. CountOf (λ y. IsGreenAt c s i y.at) (ons_of d (rows_within x.from x.to seen)) k) (λ x. green_arrivals_in p d x.from x.to seen) cs
            (λ k e lt. subst (λ (q : ℕ). CountOf (λ y. IsGreenAt c s i y.at) (ons_of d (rows_within (get_or cs k e).from (get_or cs k e).to seen)) (green_arrivals_in q d (get_or cs k e).from (get_or cs k e).to seen)) (is_mine k e lt) ((numbers k e lt).arrivals d));
        tenths = map (λ x. green_tenths_in p x.from x.to seen) cs;
        are_tenths = each_map (λ x k. Counts (IsGreenAt c s i) x.from x.to k) (λ x. green_tenths_in p x.from x.to seen) cs
            (λ k e lt. subst (λ (q : ℕ). Counts (IsGreenAt c s i) (get_or cs k e).from (get_or cs k e).to (green_tenths_in q (get_or cs k e).from (get_or cs k e).to seen)) (is_mine k e lt) (numbers k e lt).tenths);
        arrivals = refl;
        green = refl;
        green_tenths = refl;
        all_tenths = refl;
      }

  have_sums : (a : Approach) (n : CycleNumbers) (o : Option ℕ) → ((d : ℕ) → o ≡ Some d → HasPlace c a.phase) → n ≡ cycle_numbers (is_known s) c before rows a o → HaveCycleSums c s before rows a n o
  have_sums a n None place e = e
  have_sums a n (Some d) place e = subst (λ (m : CycleNumbers). AreCycleSums c s a.phase d (told (is_known s) a.phase d a.travel (before ++ rows)) (cycles_of (is_known s) c a.phase before rows) m) (sym e) (sums_are a d (place d refl))

  each_sums : (sums : List ArrivalSum) → ((j : ℕ) (a : Approach) (d : ℕ) → j < length c.approaches → (get_or c.approaches j a).advance ≡ Some d → HasPlace c (get_or c.approaches j a).phase) → HaveCycles (is_known s) c before rows sums → Each (λ a x. HaveCycleSums c s before rows a (cycle_part x) a.advance) c.approaches sums
  each_sums sums places e =
      let f = λ (a : Approach). cycle_numbers (is_known s) c before rows a a.advance in
      let size : length sums ≡ length c.approaches = sym (length-map sums cycle_part) ∙ (ap (λ (zs : List CycleNumbers). length zs) e ∙ length-map c.approaches f) in
      each_of_places (λ a x. HaveCycleSums c s before rows a (cycle_part x) a.advance) c.approaches sums size (λ j a x lt.
      let here = get_or c.approaches j a in
      let within : j < length sums = omega arith in
      let is : cycle_part (get_or sums j x) ≡ f here = sym (get_or-map cycle_part sums j x (cycle_part x) within) ∙ (ap (λ (zs : List CycleNumbers). get_or zs j (cycle_part x)) e ∙ get_or-map f c.approaches j a (cycle_part x) lt) in
      have_sums here (cycle_part (get_or sums j x)) here.advance (λ d o. places j a d lt o) is)

-- ---- a report

judged_place : (c : Settings) (s : Store) (before rows : List Row) (hour : ℕ) (a : Approach) (x : ArrivalSum) (o : Option ℕ) (d : ℕ) → o ≡ Some d → HasArrivals (MayBeIn c s) (is_known s) c a before rows hour x o → HasPlace c a.phase
judged_place c s before rows hour a x None d e is = absurd (cc)
judged_place c s before rows hour a x (Some y) d e is = (is.judged.place, is.judged.is_place)

-- the phase of an approach with an advance detector is tracked, since its arrivals are judged
places_by : (c : Settings) (s : Store) (all : List Numbers) (hour : ℕ) (z : Numbers) (w : ArrivalSum) → IsReport c s all → hour < length s.hours → (j : ℕ) (a : Approach) (d : ℕ) → j < length c.approaches → (get_or c.approaches j a).advance ≡ Some d → HasPlace c (get_or c.approaches j a).phase
places_by c s all hour z w is lt j a d within e =
    let one = is.each hour z lt in
    let here = get_or c.approaches j a in
    let x = get_or (get_or all hour z).arrivals j w in
    judged_place c s (earlier_rows s hour) (own_rows s hour) hour here x here.advance d e (one.measures.judged.each j a w within).arrivals

pub hour_green : HourGreen
hour_green c s all hour z specs store has is lt = each_sums c s (earlier_rows s hour) (own_rows s hour) (each_shows c s specs store has hour lt) (get_or all hour z).arrivals (places_by c s all hour z no_sum is lt) (is.each hour z lt).measures.whole_cycles

pub total_green : TotalGreen
total_green c s all specs store has is =
    let some = store.some in
    each_sums c s [] (known_rows s) (log_shows c s specs store has) (total_of all).arrivals (places_by c s all 0 (total_of []) no_sum is (omega arith)) (log_total c s all store is).arrivals
