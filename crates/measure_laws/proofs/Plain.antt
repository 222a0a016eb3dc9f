-- The numbers of a report are counts and sums of a part of the log, and none is capped.
use Rattle.std.proofs.Common.{◌≡◌, ◌∙◌, refl, ap, sym, subst, inl, inr, ℕ, zero, suc, ◌+◌, ◌-◌, ◌*◌, ◌<◌, ◌≤◌, Bool, true, false, not, cond, ◌&&◌, ◌||◌, nat_le, nat_lt, eqb, Option, Some, None, List, [], ◌∷◌, ◌++◌, length, map, get_or, length-append, arith}
use Rattle.std.specs.Prelude.{All, IfSome, filter_map, is_some}
use Rattle.std.specs.List.{cons_option, count_by, filter, sum, sum_by}
use Rattle.std.proofs.lemmas.Bool.{and_from, and_left, and_parts, cases_Bool, cases_lt, eq-eqb, le-leb, lt-ltb, ltb-true, or_left}
use Rattle.std.proofs.lemmas.List.{get_or-map, length-map}
use Rattle.std.proofs.lemmas.List.Elements.{All-cons, All-filter, All-head, All-nil, All-tail, All-weaker, filter_passes}
use Rattle.std.proofs.lemmas.List.Filters.{length-filter_both}
use Rattle.std.proofs.lemmas.List.Sums.{count_by-le-length, sum-map, sum_by-append, sum_by-cons, sum_by-le}
use Rattle.sig_base.specs.declared.values.Frac.{Frac}
use Rattle.sig_base.specs.declared.values.Row.{Row}
use Rattle.sig_base.specs.Numbers.{has_number, has_phase}
use Rattle.board.specs.Logs.{end_tenth, first_tenth}
use Rattle.signal_log.specs.Log.{Log, log_of, window_end}
use Rattle.hour_store.specs.Store.{IsStore, Store, count_in, is_known, known_rows}
use Rattle.hour_sweep.specs.Sums.{by_number, capped, one_if, own}
use Rattle.hour_sweep.specs.Hours.{AreOrdered, point}
use Rattle.hour_sweep.specs.Numbers.{given, outs_from}
use Rattle.hour_sweep.proofs.Orders.{below_end}
use Rattle.ring_config.specs.Settings.{Settings}
use Rattle.ring_config.specs.declared.items.Approach.{Approach}
use Rattle.stop_bar.specs.declared.bars.StopBar.{StopBar}
use Rattle.stop_bar.specs.All.{bar_with}
use Rattle.stop_bar.specs.Bars.{ending, services_upto}
use Rattle.stop_bar.specs.Lists.{Each}
use Rattle.service_cut.specs.declared.items.Cycle.{Cycle}
use Rattle.service_cut.specs.declared.items.Service.{Service}
use Rattle.service_cut.specs.declared.items.Termination.TheVariants.{ForceOff, GapOut, MaxOut, Unlogged}
use Rattle.service_cut.specs.Cut.{cycle_is_in, cycles_from, service_is_in, services_from}
use Rattle.service_cut.specs.Cycles.{cycle_at}
use Rattle.service_cut.specs.Services.{service_at}
use Rattle.service_cut.proofs.HourLists.{cycles_count, services_count}
use Rattle.hour_sweep.proofs.Adding.{capped_small}
use Rattle.stop_bar.specs.Windows.{due, left}
use Rattle.ring_config.proofs.SpecLaws.{length_filter}
use Rattle.stop_bar.proofs.Common.{each_long}
use Rattle.split_measures.specs.declared.failures.SplitSum.{SplitSum}
use Rattle.split_measures.specs.declared.sums.PhaseSum.{PhaseSum}
use Rattle.split_measures.specs.declared.verdict.SplitVerdict.{SplitVerdict}
use Rattle.split_measures.specs.declared.verdict.SplitVerdict.TheVariants.{Fail, Pass, Undecided, Open, Fault}
use Rattle.split_measures.specs.Failures.{how_many, is_verdict, split_sum_of}
use Rattle.split_measures.specs.Hours.{IsApproachSum, open_in, opens_of}
use Rattle.split_measures.specs.Verdicts.{IsVerdict}
use Rattle.split_measures.specs.Phases.{cycle_length, cycles_of as cycles_of_phase, is_end, phase_sum, phase_sum_of, phase_sums, services_of, split}
use Rattle.split_measures.proofs.Opening.{all_open, none_else}
use Rattle.other_measures.specs.declared.sums.CoordSum.{CoordSum}
use Rattle.other_measures.specs.declared.sums.PedSum.{PedSum}
use Rattle.other_measures.specs.declared.sums.PreemptSum.{PreemptSum}
use Rattle.other_measures.specs.Hours.{AreNumbers, HasDelays, HasEvents, HasRows, OtherNumbers, delays_from, events_from}
use Rattle.other_measures.specs.LastRows.{lapse_of, last_row_of, since_first}
use Rattle.other_measures.specs.Peds.{delay_at, is_call, is_walk}
use Rattle.other_measures.specs.Preempts.{call_of, delay_of, event_at, is_dwell, is_entry, is_exit}
use Rattle.other_measures.specs.States.{EachOf}
use Rattle.other_measures.specs.Sums.{delay_in, dwell_in, is_entry_event, is_late_entry, is_late_exit, is_not_begun, is_partial, ped_sum_of, preempt_sum_of, ran}
use Rattle.other_measures.proofs.Stores.{each_as}
use Rattle.arrival_measures.specs.Arrivals.{is_on, ons_of, rows_within}
use Rattle.arrival_measures.specs.Green.{arrivals_in, green_arrivals_in, green_tenths_in, shows_green}
use Rattle.arrival_measures.specs.Own.{turns_green}
use Rattle.arrival_measures.proofs.Counts.{and_true}
use Rattle.arrival_measures.proofs.Tenths.{tenths_within}
use Rattle.arrival_measures.specs.declared.sums.ArrivalSum.{ArrivalSum}
use Rattle.arrival_measures.specs.Cycles.{CycleNumbers, cycle_tenths, numbers_of}
use Rattle.arrival_measures.specs.Faults.{arrivals_from, faults_from, is_arrival, is_fault_row}
use Rattle.arrival_measures.specs.Hours.{HasActuations, HasArrivals, HasJudged, HaveCycles, counts_in, cycle_numbers, cycle_part, cycles_of, due_in, is_seen}
use Rattle.arrival_measures.specs.Judged.{AreJudged, is_green}
use Rattle.arrival_measures.specs.Travel.{arrivals_at, told}
use Rattle.arrival_measures.proofs.Filters.{filter_same}
use Rattle.hour_work.specs.Rows.{earlier_rows, own_rows}
use Rattle.hour_work.specs.Measures.{MayBeIn, MeetsIn}
use Rattle.hour_work.specs.Numbers.{Numbers, count_from, total_of}
use Rattle.hour_work.specs.Reports.{IsReport}
use Rattle.hour_work.proofs.Totals.{log_total}
use Rattle.hour_work.proofs.WholeLog.{all_rows, earlier_ordered, hour_within, own_ordered}
use Rattle.measure_laws.specs.Plain.{ArePlainArrivals, ArePlainVerdicts, HasPlainRows, HavePlainVerdicts, IsApproachPart, IsHourOf, IsPlainPed, IsPlainPhase, IsPlainPreempt, IsWindowOf, SumsArePlain}
use Rattle.measure_laws.proofs.Said.{HavePlainActuations, HavePlainArrivals, HavePlainCycles, counts_between, is_seen_by, no_verdicts, open_by, AreCycleNumbers}
use Rattle.measure_laws.specs.States.{AreStatesBetween}
use Rattle.measure_laws.specs.Totals.{AreTotalsOf, HaveTotals, IsApproachTotal}
use Rattle.measure_laws.proofs.Adding.{all_few, arrivals_few, cons_few, open_few, outs_few, two_few}
use Rattle.measure_laws.proofs.Parts.{hour_held, hour_lines, hours_total, known_total, lines_total, rows_total}
use Rattle.measure_laws.proofs.States.{hour_states, state_totals}
use Rattle.measure_laws.proofs.Arrivals.{arrival_totals, ons_few, past_unknown}
use Rattle.measure_laws.proofs.Splits.{split_totals}
use Rattle.measure_laws.proofs.Totals.{each_as as each_of, each_of_places, filter_all, known_few}
use Rattle.measure_laws.proofs.Counted.{counted_at, ends_counted, greatest_is, least_is, verdicts_counted}

-- ---- how many rows a store has, and at which tenths

-- known rows of a store, of 744 hours with at most 400,000 rows each, where the first rows stand before them
record AreOfLog (before rows : List Row) : Type 0 where
  from : ℕ
  to : ℕ
  end : to ≤ 26784000
  earlier : AreOrdered 0 from before
  own : AreOrdered from to rows
  few : length (before ++ rows) ≤ 297600000

hour_part : (s : Store) (hour : ℕ) → IsStore s → hour < length s.hours → AreOfLog (earlier_rows s hour) (own_rows s hour)
hour_part s hour store lt =
    let w = hour_within s hour store lt in
    let a = length-append (earlier_rows s hour) (own_rows s hour ++ w.later) in
    let b = length-append (own_rows s hour) w.later in
    let c = length-append (earlier_rows s hour) (own_rows s hour) in
    let e = ap (λ (rs : List Row). length rs) w.parts in
    let few = known_few s store in
    let most = store.few in
    record {
      from = point hour;
      to = point (hour + 1);
      end = omega (arith, lt, most);
      earlier = earlier_ordered s hour store (omega arith);
      own = own_ordered s hour store;
      few = omega (arith, a, b, c, e, few);
    }

log_part : (s : Store) → IsStore s → AreOfLog [] (known_rows s)
log_part s store =
    let most = store.few in
    let end = point (length s.hours) in
    record {
      from = 0;
      to = end;
      end = omega (arith, most);
      earlier = omega arith;
      own = subst (λ (rs : List Row). AreOrdered 0 end rs) (all_rows s) (earlier_ordered s (length s.hours) store (omega arith));
      few = known_few s store;
    }

part_few : (before rows : List Row) → AreOfLog before rows → length rows ≤ 297600000
part_few before rows part = let both = length-append before rows in let few = part.few in omega (arith, both, few)

-- ---- sums and counts of so few

sum_plain : {X : Type 0} (f : X → ℕ) (xs : List X) → length xs ≤ 297600000 → All (λ x. f x ≤ 600000000) xs → capped (sum (map f xs)) ≡ sum_by f xs
sum_plain f xs few small =
    let most = sum_by-le f 600000000 xs small in
    ap (λ (n : ℕ). capped n) (sum-map f xs) ∙ capped_small (sum_by f xs) (omega (arith, most, few))

count_plain : {X : Type 0} (test : X → Bool) (xs : List X) → length xs ≤ 297600000 → capped (count_by test xs) ≡ count_by test xs
count_plain test xs few = let most = count_by-le-length test xs in capped_small (count_by test xs) (omega (arith, most, few))

length_plain : {X : Type 0} (xs : List X) → length xs ≤ 297600000 → capped (length xs) ≡ length xs
length_plain xs few = capped_small (length xs) (omega (arith, few))

-- ---- phases

each_by : {A : Type 0} (has : ℕ → Bool) (Is : ℕ → A → Type 0) (f : ℕ → A) (n : ℕ) → ((p : ℕ) → Is p (f p)) → EachOf has Is n (by_number has f n)
unfolding EachOf
each_by has Is f zero h = refl
each_by has Is f (suc n) h = elim (cases_Bool (has n)) [
  | inl t ↦ rw t (inl (refl, (by_number has f n, f n, each_by has Is f n h, h n, refl)))
  | inr t ↦ rw t (inr (refl, each_by has Is f n h))
]

services_short : (known : ℕ → Bool) (c : Settings) (before rows : List Row) → AreOfLog before rows → All (λ (x : Service). split x ≤ 600000000) (services_from known c.phases before rows)
services_short known c before rows part =
    let all = services_from known c.phases [] (before ++ (rows ++ [])) in
    let test = service_is_in part.from part.to in
    let kept : filter test all ≡ services_from known c.phases before rows = services_count known c.phases part.from part.to part.to before rows [] part.earlier part.own (omega arith) in
    subst (λ (xs : List Service). All (λ (x : Service). split x ≤ 600000000) xs) kept
    (λ k d some.
    let x = get_or (filter test all) k d in
    let hi = ltb-true x.r part.to (and_parts (nat_le part.from x.r) (nat_lt x.r part.to) (filter_passes test all k d some)).1 in
    let end = part.end in
    omega (arith, hi, end))

cycles_short : (known : ℕ → Bool) (c : Settings) (before rows : List Row) → AreOfLog before rows → All (λ (x : Cycle). cycle_length x ≤ 600000000) (cycles_from known c.phases before rows)
cycles_short known c before rows part =
    let all = cycles_from known c.phases [] (before ++ (rows ++ [])) in
    let test = cycle_is_in part.from part.to in
    let kept : filter test all ≡ cycles_from known c.phases before rows = cycles_count known c.phases part.from part.to part.to before rows [] part.earlier part.own (omega arith) in
    subst (λ (xs : List Cycle). All (λ (x : Cycle). cycle_length x ≤ 600000000) xs) kept
    (λ k d some.
    let x = get_or (filter test all) k d in
    let hi = ltb-true x.to part.to (and_parts (nat_le part.from x.to) (nat_lt x.to part.to) (filter_passes test all k d some)).1 in
    let end = part.end in
    omega (arith, hi, end))

phase_plain : (ss : List Service) (cs : List Cycle) (p : ℕ) → length ss ≤ 297600000 → length cs ≤ 297600000 → All (λ (x : Service). split x ≤ 600000000) ss → All (λ (x : Cycle). cycle_length x ≤ 600000000) cs → IsPlainPhase ss cs p (phase_sum ss cs p)
unfolding phase_sum_of
phase_plain ss cs p few some short_ss short_cs =
    let is_own : Service → Bool = λ s. eqb s.phase p in
    let is_its : Cycle → Bool = λ c. eqb c.phase p in
    let own = services_of p ss in
    let its = cycles_of_phase p cs in
    let a = length_filter is_own ss in
    let b = length_filter is_its cs in
    let few_own : length own ≤ 297600000 = omega (arith, a, few) in
    let few_its : length its ≤ 297600000 = omega (arith, b, some) in
    record {
      services = length_plain own few_own;
      least = least_is (map split own);
      greatest = greatest_is (map split own);
      sum = sum_plain split own few_own (All-filter is_own (λ (x : Service). split x ≤ 600000000) ss short_ss);
      gap_out = counted_at _ _ (count_plain (λ (s : Service). is_end GapOut s.end) own few_own) (ends_counted GapOut own);
      max_out = counted_at _ _ (count_plain (λ (s : Service). is_end MaxOut s.end) own few_own) (ends_counted MaxOut own);
      force_off = counted_at _ _ (count_plain (λ (s : Service). is_end ForceOff s.end) own few_own) (ends_counted ForceOff own);
      unlogged = counted_at _ _ (count_plain (λ (s : Service). is_end Unlogged s.end) own few_own) (ends_counted Unlogged own);
      cycles = length_plain its few_its;
      cycle_sum = sum_plain cycle_length its few_its (All-filter is_its (λ (x : Cycle). cycle_length x ≤ 600000000) cs short_cs);
    }

phases_plain : (known : ℕ → Bool) (c : Settings) (before rows : List Row) (splits : List PhaseSum) → AreOfLog before rows → splits ≡ phase_sums c.phases (services_from known c.phases before rows) (cycles_from known c.phases before rows) → EachOf (has_phase c.phases) (IsPlainPhase (services_from known c.phases before rows) (cycles_from known c.phases before rows)) 17 splits
phases_plain known c before rows splits part e =
    let ss = services_from known c.phases before rows in
    let cs = cycles_from known c.phases before rows in
    let few = part_few before rows part in
    let a = outs_few (service_at known) (has_phase c.phases) before rows in
    let b = outs_few (λ p earlier r rest. cycle_at known p earlier r) (has_phase c.phases) before rows in
    subst (λ (xs : List PhaseSum). EachOf (has_phase c.phases) (IsPlainPhase ss cs) 17 xs) (sym e)
    (each_by (has_phase c.phases) (IsPlainPhase ss cs) (phase_sum ss cs) 17
    (λ p. phase_plain ss cs p (omega (arith, a, few)) (omega (arith, b, few)) (services_short known c before rows part) (cycles_short known c before rows part)))

-- ---- what rows give

cons_so : {X : Type 0} (P : X → Type 0) (o : Option X) (xs : List X) → IfSome o P → All P xs → All P (cons_option o xs)
cons_so P None xs h all = all
cons_so P (Some x) xs h all = All-cons P x xs h all

given_so : {X : Type 0} (P : X → Type 0) (v : Bool) (o : Option X) → IfSome o P → IfSome (cond v o None) P
given_so P true o h = h
given_so P false o h = tt

outs_so : {O : Type 0} (out_at : ℕ → List Row → Row → List Row → Option O) (P : O → Type 0) (has : ℕ → Bool) (before rows : List Row) → ((p : ℕ) (earlier : List Row) (r : Row) (rest : List Row) → r.at < 26784000 → IfSome (out_at p earlier r rest) P) → All (λ (r : Row). r.at < 26784000) rows → All P (outs_from out_at has before rows)
outs_so out_at P has before [] h low = All-nil P
outs_so out_at P has before (r ∷ rs) h low =
    let here = h r.param before r rs (All-head (λ (z : Row). z.at < 26784000) r rs low) in
    let rest = outs_so out_at P has (before ++ r ∷ []) rs h (All-tail (λ (z : Row). z.at < 26784000) r rs low) in
    cons_so P (given out_at has before r rs) (outs_from out_at has (before ++ r ∷ []) rs) (given_so P (has r.param) (out_at r.param before r rs) here) rest

rows_early : (before rows : List Row) → AreOfLog before rows → All (λ (r : Row). r.at < 26784000) rows
rows_early before rows part =
    let end = part.end in
    All-weaker (λ (r : Row). r.at < part.to) (λ (r : Row). r.at < 26784000) (λ r lt. omega (arith, lt, end)) rows (below_end part.from part.to rows part.own)

kept_few : {X Y : Type 0} (h : X → Option Y) (xs : List X) → length (filter_map h xs) ≤ length xs
kept_few h [] = omega arith
kept_few h (x ∷ xs) = let here = cons_few (h x) (filter_map h xs) in let rest = kept_few h xs in omega (arith, here, rest)

kept_so : {X Y : Type 0} (P : Y → Type 0) (h : X → Option Y) (xs : List X) → All (λ x. IfSome (h x) P) xs → All P (filter_map h xs)
kept_so P h [] all = All-nil P
kept_so P h (x ∷ xs) all = cons_so P (h x) (filter_map h xs) (All-head (λ z. IfSome (h z) P) x xs all) (kept_so P h xs (All-tail (λ z. IfSome (h z) P) x xs all))

abbrev IsShort : ℕ → Type 0
IsShort n = n ≤ 600000000

-- what is given of one number
module _ {X : Type 0} (xs : List X) (p : ℕ) (few : length xs ≤ 297600000) where
  own_few : (number : X → ℕ) → length (own number p xs) ≤ 297600000
  own_few number = let a = length_filter (λ x. eqb (number x) p) xs in omega (arith, a, few)

  own_length : (number : X → ℕ) → capped (length (own number p xs)) ≡ length (own number p xs)
  own_length number = length_plain (own number p xs) (own_few number)

  own_count : (number : X → ℕ) (test : X → Bool) → capped (count_by test (own number p xs)) ≡ count_by test (own number p xs)
  own_count number test = count_plain test (own number p xs) (own_few number)

  own_kept : (number : X → ℕ) (h : X → Option ℕ) → capped (length (filter_map h (own number p xs))) ≡ length (filter_map h (own number p xs))
  own_kept number h =
      let less = kept_few h (own number p xs) in
      let most = own_few number in
      capped_small (length (filter_map h (own number p xs))) (omega (arith, less, most))

  own_sum : (number : X → ℕ) (h : X → Option ℕ) → All (λ x. IfSome (h x) IsShort) xs → capped (sum (filter_map h (own number p xs))) ≡ sum (filter_map h (own number p xs))
  own_sum number h all =
      let mine = own number p xs in
      let less = kept_few h mine in
      let low = own_few number in
      let short = All-filter (λ x. eqb (number x) p) (λ x. IfSome (h x) IsShort) xs all in
      let most = sum_by-le (λ (n : ℕ). n) 600000000 (filter_map h mine) (kept_so IsShort h mine short) in
      capped_small (sum (filter_map h mine)) (omega (arith, less, most, low))

-- ---- pedestrian signals

since_short : (t : ℕ) (o : Option Row) → t < 26784000 → IfSome (ran (since_first t o)) IsShort
since_short t None lt = tt
since_short t (Some x) lt = omega (arith, lt)

lapse_short : (is_last is_first : Row → Bool) (known : ℕ → Bool) (t : ℕ) (before : List Row) → t < 26784000 → IfSome (ran (lapse_of t (last_row_of is_last is_first known t before))) IsShort
lapse_short is_last is_first known t before lt = elim (last_row_of is_last is_first known t before) as (λ o. IfSome (ran (lapse_of t o)) IsShort) [ None ↦ tt | Some l ↦ since_short t l.first lt ]

delay_short : (known : ℕ → Bool) (p : ℕ) (before : List Row) (r : Row) (rest : List Row) → r.at < 26784000 → IfSome (delay_at known p before r rest) (λ d. IfSome (ran d.wait) IsShort)
unfolding delay_at
delay_short known p before r rest lt =
    let short = lapse_short (is_walk p) (is_call p) known r.at before lt in
    elim (cases_Bool (is_walk p r)) [ inl t ↦ rw t short | inr f ↦ rw f tt ]

ped_plain : (known : ℕ → Bool) (c : Settings) (before rows : List Row) (p : ℕ) (n : PedSum) → AreOfLog before rows → HasDelays (delays_from known c before rows) p n → IsPlainPed known c before rows p n
unfolding ped_sum_of
ped_plain known c before rows p n part e =
    let ds = delays_from known c before rows in
    let less = outs_few (delay_at known) (has_number c.peds) before rows in
    let most = part_few before rows part in
    let few : length ds ≤ 297600000 = omega (arith, less, most) in
    let short = outs_so (delay_at known) (λ d. IfSome (ran d.wait) IsShort) (has_number c.peds) before rows (delay_short known) (rows_early before rows part) in
    record {
      walks = ap (λ (x : PedSum). x.walks) e ∙ own_length ds p few (λ d. d.ped);
      delays = ap (λ (x : PedSum). x.delays) e ∙ own_kept ds p few (λ d. d.ped) (λ d. ran d.wait);
      sum = ap (λ (x : PedSum). x.sum) e ∙ own_sum ds p few (λ d. d.ped) (λ d. ran d.wait) short;
      greatest = ap (λ (x : PedSum). x.greatest) e ∙ greatest_is (filter_map (λ d. ran d.wait) (own (λ d. d.ped) p ds));
      uncalled = ap (λ (x : PedSum). x.uncalled) e ∙ own_count ds p few (λ d. d.ped) (λ d. is_not_begun d.wait);
      partial = ap (λ (x : PedSum). x.partial) e ∙ own_count ds p few (λ d. d.ped) (λ d. is_partial d.wait);
    }

-- ---- preempts

call_short : (t : ℕ) (o : Option Row) → t < 26784000 → IfSome (delay_of t o) IsShort
call_short t None lt = tt
call_short t (Some x) lt = omega (arith, lt)

event_delay : (known : ℕ → Bool) (p : ℕ) (before : List Row) (r : Row) (rest : List Row) → r.at < 26784000 → IfSome (event_at known p before r rest) (λ e. IfSome (delay_in e.event) IsShort)
unfolding event_at
event_delay known p before r rest lt =
    let short = call_short r.at (call_of known r.at p before) lt in
    elim (cases_Bool (is_entry p r)) [
      | inl t ↦ rw t short
      | inr f ↦ elim (cases_Bool (is_exit p r)) [ inl t ↦ rw (f, t) tt | inr g ↦ rw (f, g) tt ]
    ]

event_dwell : (known : ℕ → Bool) (p : ℕ) (before : List Row) (r : Row) (rest : List Row) → r.at < 26784000 → IfSome (event_at known p before r rest) (λ e. IfSome (dwell_in e.event) IsShort)
unfolding event_at
event_dwell known p before r rest lt =
    let short = lapse_short (λ z. is_entry p z || is_exit p z) (is_dwell p) known r.at before lt in
    elim (cases_Bool (is_entry p r)) [
      | inl t ↦ rw t tt
      | inr f ↦ elim (cases_Bool (is_exit p r)) [ inl t ↦ rw (f, t) short | inr g ↦ rw (f, g) tt ]
    ]

preempt_plain : (known : ℕ → Bool) (c : Settings) (before rows : List Row) (p : ℕ) (n : PreemptSum) → AreOfLog before rows → HasEvents (events_from known c before rows) p n → IsPlainPreempt known c before rows p n
unfolding preempt_sum_of
preempt_plain known c before rows p n part e =
    let es = events_from known c before rows in
    let less = outs_few (event_at known) (has_number c.preempts) before rows in
    let most = part_few before rows part in
    let few : length es ≤ 297600000 = omega (arith, less, most) in
    let early = rows_early before rows part in
    let delays = outs_so (event_at known) (λ x. IfSome (delay_in x.event) IsShort) (has_number c.preempts) before rows (event_delay known) early in
    let dwells = outs_so (event_at known) (λ x. IfSome (dwell_in x.event) IsShort) (has_number c.preempts) before rows (event_dwell known) early in
    record {
      entries = ap (λ (x : PreemptSum). x.entries) e ∙ own_count es p few (λ x. x.preempt) (λ x. is_entry_event x.event);
      delays = ap (λ (x : PreemptSum). x.delays) e ∙ own_kept es p few (λ x. x.preempt) (λ x. delay_in x.event);
      sum = ap (λ (x : PreemptSum). x.sum) e ∙ own_sum es p few (λ x. x.preempt) (λ x. delay_in x.event) delays;
      partial = ap (λ (x : PreemptSum). x.partial) e ∙ own_count es p few (λ x. x.preempt) (λ x. is_late_entry x.event);
      dwells = ap (λ (x : PreemptSum). x.dwells) e ∙ own_kept es p few (λ x. x.preempt) (λ x. dwell_in x.event);
      dwell_sum = ap (λ (x : PreemptSum). x.dwell_sum) e ∙ own_sum es p few (λ x. x.preempt) (λ x. dwell_in x.event) dwells;
      dwell_partial = ap (λ (x : PreemptSum). x.dwell_partial) e ∙ own_count es p few (λ x. x.preempt) (λ x. is_late_exit x.event);
    }

-- ---- the coordination

rows_plain : (rows : List Row) (n : CoordSum) → length rows ≤ 297600000 → HasRows rows n → HasPlainRows rows n
rows_plain rows n few h = record {
  patterns = h.patterns ∙ count_plain (λ (x : Row). eqb x.code 131) rows few;
  cycle_changes = h.cycle_changes ∙ count_plain (λ (x : Row). eqb x.code 132) rows few;
  yields = h.yields ∙ count_plain (λ (x : Row). eqb x.code 151) rows few;
  begins = h.begins ∙ count_plain (λ (x : Row). eqb x.code 152) rows few;
}

-- ---- whole cycles of approaches

told_few : (known : ℕ → Bool) (p d v : ℕ) (rows : List Row) → length (told known p d v rows) ≤ length rows + length rows
unfolding told
told_few known p d v rows =
    let a = length_filter (turns_green p) rows in
    let b = arrivals_few known d v rows in
    let both = length-append (filter (turns_green p) rows) (arrivals_at known d v rows) in
    omega (arith, a, b, both)

-- in any tenths there are no more rows than in all
within_few : (d a b : ℕ) (rows : List Row) → arrivals_in d a b rows ≤ length rows
within_few d a b rows =
    let x = length_filter (is_on d) (rows_within a b rows) in
    let y = length_filter (λ (r : Row). nat_le a r.at && nat_lt r.at b) rows in
    omega (arith, x, y)

within_green : (p d a b : ℕ) (rows : List Row) → green_arrivals_in p d a b rows ≤ length rows
within_green p d a b rows =
    let x = count_by-le-length (λ (r : Row). is_on d r && shows_green p a rows r.at) (rows_within a b rows) in
    let y = length_filter (λ (r : Row). nat_le a r.at && nat_lt r.at b) rows in
    omega (arith, x, y)

cycles_plain : (p d : ℕ) (rows : List Row) (cs : List Cycle) → length rows ≤ 595200000 → length cs ≤ 297600000 → All (λ (x : Cycle). cycle_length x ≤ 600000000) cs → AreCycleNumbers p d rows cs (numbers_of p d rows cs)
unfolding numbers_of
cycles_plain p d rows cs few some short = record {
  arrivals = sum_plain (λ (x : Cycle). arrivals_in d x.from x.to rows) cs some (λ k e lt. let x = get_or cs k e in let most = within_few d x.from x.to rows in omega (arith, most, few));
  green = sum_plain (λ (x : Cycle). green_arrivals_in p d x.from x.to rows) cs some (λ k e lt. let x = get_or cs k e in let most = within_green p d x.from x.to rows in omega (arith, most, few));
  green_tenths = sum_plain (λ (x : Cycle). green_tenths_in p x.from x.to rows) cs some (λ k e lt. let x = get_or cs k e in let most = tenths_within (shows_green p x.from rows) x.from (x.to - x.from) in let long = short k e lt in omega (arith, most, long));
  tenths = sum_plain cycle_tenths cs some short;
}

have_plain : (known : ℕ → Bool) (c : Settings) (before rows : List Row) (a : Approach) (n : ArrivalSum) (o : Option ℕ) → AreOfLog before rows → cycle_part n ≡ cycle_numbers known c before rows a o → HavePlainCycles known c before rows a n o
have_plain known c before rows a n None part e = (ap (λ (m : CycleNumbers). m.arrivals) e, ap (λ (m : CycleNumbers). m.green) e, ap (λ (m : CycleNumbers). m.green_tenths) e, ap (λ (m : CycleNumbers). m.tenths) e)
have_plain known c before rows a n (Some d) part e =
    let seen = told known a.phase d a.travel (before ++ rows) in
    let all = cycles_from known c.phases before rows in
    let is_its : Cycle → Bool = λ x. eqb x.phase a.phase in
    let its = cycles_of known c a.phase before rows in
    let less = told_few known a.phase d a.travel (before ++ rows) in
    let most = part.few in
    let few = part_few before rows part in
    let outs = outs_few (λ p earlier r rest. cycle_at known p earlier r) (has_phase c.phases) before rows in
    let kept = length_filter is_its all in
    let so : AreCycleNumbers a.phase d seen its (cycle_part n) = subst (λ (m : CycleNumbers). AreCycleNumbers a.phase d seen its m) (sym e)
    (cycles_plain a.phase d seen its (omega (arith, less, most)) (omega (arith, outs, kept, few)) (All-filter is_its (λ (x : Cycle). cycle_length x ≤ 600000000) all (cycles_short known c before rows part))) in
    record { arrivals = so.arrivals; green = so.green; green_tenths = so.green_tenths; tenths = so.tenths }

each_cycles : (known : ℕ → Bool) (c : Settings) (before rows : List Row) (sums : List ArrivalSum) → AreOfLog before rows → HaveCycles known c before rows sums → Each (λ a x. HavePlainCycles known c before rows a x a.advance) c.approaches sums
each_cycles known c before rows sums part e =
    let f = λ (a : Approach). cycle_numbers known c before rows a a.advance in
    let size : length sums ≡ length c.approaches = sym (length-map sums cycle_part) ∙ (ap (λ (zs : List CycleNumbers). length zs) e ∙ length-map c.approaches f) in
    each_of_places (λ a x. HavePlainCycles known c before rows a x a.advance) c.approaches sums size (λ j a x lt.
    let here = get_or c.approaches j a in
    let within : j < length sums = omega arith in
    let is : cycle_part (get_or sums j x) ≡ f here = sym (get_or-map cycle_part sums j x (cycle_part x) within) ∙ (ap (λ (zs : List CycleNumbers). get_or zs j (cycle_part x)) e ∙ get_or-map f c.approaches j a (cycle_part x) lt) in
    have_plain known c before rows here (get_or sums j x) here.advance part is)

-- ---- services at stop bars

count_both : (v : SplitVerdict) (xs ys : List SplitVerdict) → count_by (is_verdict v) (xs ++ ys) ≡ count_by (is_verdict v) xs + count_by (is_verdict v) ys
count_both v xs ys = sum_by-append (λ (x : SplitVerdict). cond (is_verdict v x) 1 0) xs ys

count_more : (v w : SplitVerdict) (vs : List SplitVerdict) → count_by (is_verdict v) (w ∷ vs) ≡ one_if (is_verdict v w) + count_by (is_verdict v) vs
count_more v w vs = sum_by-cons (λ (x : SplitVerdict). cond (is_verdict v x) 1 0) w vs

-- and of those that are judged none is open
none_open : (log : Log) (i : ℕ) (high : Frac) (ss : List Service) (vs : List SplitVerdict) → Each (λ s v. IsVerdict log i high s v) ss vs → count_by (is_verdict Open) vs ≡ 0
none_open log i high [] [] h = refl
none_open log i high [] (v ∷ vs) h = absurd h
none_open log i high (s ∷ ss) [] h = absurd h
none_open log i high (s ∷ ss) (Fail ∷ vs) h = let one = count_more Open Fail vs in let rest = none_open log i high ss vs h.1 in omega (arith, one, rest)
none_open log i high (s ∷ ss) (Pass ∷ vs) h = let one = count_more Open Pass vs in let rest = none_open log i high ss vs h.1 in omega (arith, one, rest)
none_open log i high (s ∷ ss) (Undecided ∷ vs) h = let one = count_more Open Undecided vs in let rest = none_open log i high ss vs h.1 in omega (arith, one, rest)
none_open log i high (s ∷ ss) (Open ∷ vs) h = absurd h.0
none_open log i high (s ∷ ss) (Fault ∷ vs) h = let one = count_more Open Fault vs in let rest = none_open log i high ss vs h.1 in omega (arith, one, rest)

-- a verdict among those of the judged and of the open services
module _ (vs : List SplitVerdict) (ws : List Service) (few : length vs + length ws ≤ 297600000) where
  counted : (v : SplitVerdict) → how_many v (vs ++ opens_of ws) ≡ count_by (is_verdict v) vs + count_by (is_verdict v) (opens_of ws)
  counted v =
      let xs = vs ++ opens_of ws in
      let opens : length (opens_of ws) ≡ length ws = length-map ws (λ s. Open) in
      let size = length-append vs (opens_of ws) in
      count_plain (is_verdict v) xs (omega (arith, opens, size, few)) ∙ count_both v vs (opens_of ws)

  judged_counted : (v : SplitVerdict) → is_verdict v Open ≡ false → how_many v (vs ++ opens_of ws) ≡ count_by (is_verdict v) vs
  judged_counted v e = let both = counted v in let none = none_else v ws e in omega (arith, both, none)

verdicts_plain : (log : Log) (i : ℕ) (b : StopBar) (judged waiting : List Service) (n : SplitSum) (vs : List SplitVerdict) → length judged + length waiting ≤ 297600000 → Each (λ s v. IsVerdict log i b.high s v) judged vs → n ≡ split_sum_of (vs ++ opens_of waiting) → ArePlainVerdicts log i b judged waiting n
unfolding split_sum_of
verdicts_plain log i b judged waiting n vs few each e =
    let long = each_long (λ s v. IsVerdict log i b.high s v) judged vs each in
    let low : length vs + length waiting ≤ 297600000 = omega (arith, long, few) in
    let all = counted vs waiting low Open in
    let none = none_open log i b.high judged vs each in
    let opens = all_open waiting in
    let kept : how_many Open (vs ++ opens_of waiting) ≡ length waiting = omega (arith, all, none, opens) in
    record {
      verdicts = vs;
      each = each;
      fail = counted_at _ _ (ap (λ (x : SplitSum). x.fail) e ∙ judged_counted vs waiting low Fail refl) (verdicts_counted Fail vs);
      pass = counted_at _ _ (ap (λ (x : SplitSum). x.pass) e ∙ judged_counted vs waiting low Pass refl) (verdicts_counted Pass vs);
      undecided = counted_at _ _ (ap (λ (x : SplitSum). x.undecided) e ∙ judged_counted vs waiting low Undecided refl) (verdicts_counted Undecided vs);
      fault = counted_at _ _ (ap (λ (x : SplitSum). x.fault) e ∙ judged_counted vs waiting low Fault refl) (verdicts_counted Fault vs);
      left_open = ap (λ (x : SplitSum). x.left_open) e ∙ kept;
    }

nothing_counted : split_sum_of [] ≡ no_verdicts
unfolding split_sum_of capped
nothing_counted = refl

hour_verdicts : (c : Settings) (s : Store) (hour : ℕ) (x : SplitSum) (o : Option StopBar) → AreOfLog (earlier_rows s hour) (own_rows s hour) → IsApproachSum (log_of c.specs s) c hour (earlier_rows s hour ++ own_rows s hour) x o → HavePlainVerdicts (log_of c.specs s) c (ending (first_tenth hour) (first_tenth (hour + 1))) (open_by c (hour + 1)) (earlier_rows s hour ++ own_rows s hour) x o
hour_verdicts c s hour x None part e = e ∙ nothing_counted
hour_verdicts c s hour x (Some b) part (i, at, is) =
    let upto = earlier_rows s hour ++ own_rows s hour in
    let all = services_upto (is_known s) c.phases b.phase upto in
    let ended = ending (first_tenth hour) (end_tenth hour) all in
    let waiting = open_in c.window.hours hour all in
    let p = two_few (first_tenth hour) (end_tenth hour) all in
    let q = open_few c.window.hours hour all in
    let r = all_few (is_known s) c.phases b.phase upto in
    let few = part.few in
    let plain = verdicts_plain (log_of c.specs s) i b ended waiting x is.verdicts (omega (arith, p, q, r, few)) is.each is.sums in
    let next : end_tenth hour ≡ first_tenth (hour + 1) = omega arith in
    (i, at, subst (λ (t : ℕ). ArePlainVerdicts (log_of c.specs s) i b (ending (first_tenth hour) t all) (cond (nat_le c.window.hours (hour + 1)) (left t all) []) x) next plain)

-- each red window ends after tenth 0
all_ending : (end : ℕ) (ss : List Service) → due end ss ≡ ending 0 end ss
all_ending end ss = filter_same (λ (x : Service). nat_le (x.r + 50) end) (λ x. nat_lt 0 (x.r + 50) && nat_le (x.r + 50) end) ss
    (λ k d lt. let x = get_or ss k d in sym (ap (λ v. v && nat_le (x.r + 50) end) (lt-ltb 0 (x.r + 50) (omega arith))))

-- those that aren't over by the window's end are open
left_open : (c : Settings) (ss : List Service) → left (first_tenth c.window.hours) ss ≡ open_by c c.window.hours ss
left_open c ss = let hours = c.window.hours in sym (ap (λ v. cond v (left (first_tenth hours) ss) []) (le-leb hours hours (omega arith)))

log_verdicts : (c : Settings) (s : Store) (x : SplitSum) (o : Option StopBar) → IsStore s → length s.hours ≡ c.window.hours → IsApproachTotal (log_of c.specs s) c x o → HavePlainVerdicts (log_of c.specs s) c (ending 0 (first_tenth c.window.hours)) (open_by c c.window.hours) (known_rows s) x o
log_verdicts c s x None store size e = e ∙ nothing_counted
log_verdicts c s x (Some b) store size (i, at, is) =
    let end = window_end (log_of c.specs s) in
    let all = services_upto (is_known s) c.phases b.phase (known_rows s) in
    let is_due : Service → Bool = λ y. nat_le (y.r + 50) end in
    let both = length-filter_both is_due (λ y. not (is_due y)) (λ y. refl) all in
    let r = all_few (is_known s) c.phases b.phase (known_rows s) in
    let few = known_few s store in
    let plain = verdicts_plain (log_of c.specs s) i b (due end all) (left end all) x is.verdicts (omega (arith, both, r, few)) is.each is.sums in
    let Are : List Service → List Service → Type 0 = λ judged waiting. ArePlainVerdicts (log_of c.specs s) i b judged waiting x in
    let last : end ≡ first_tenth c.window.hours = omega arith in
    let over : due end all ≡ ending 0 (first_tenth c.window.hours) all = ap (λ (t : ℕ). due t all) last ∙ all_ending (first_tenth c.window.hours) all in
    let waits : left end all ≡ open_by c c.window.hours all = ap (λ (t : ℕ). left t all) last ∙ left_open c all in
    (i, at, subst (λ ss. Are (ending 0 (first_tenth c.window.hours) all) ss) waits (subst (λ ss. Are ss (left end all)) over plain))

-- ---- arrivals and actuations

hour_arrivals : (c : Settings) (s : Store) (hour : ℕ) (a : Approach) (x : ArrivalSum) (o : Option ℕ) → AreOfLog (earlier_rows s hour) (own_rows s hour) → HasArrivals (MayBeIn c s) (is_known s) c a (earlier_rows s hour) (own_rows s hour) hour x o → HavePlainArrivals c s (λ d. filter (counts_between c hour (hour + 1)) (arrivals_at (is_known s) d a.travel (earlier_rows s hour ++ own_rows s hour))) (is_seen_by (is_known s) (hour + 1)) (earlier_rows s hour) (own_rows s hour) a x o
hour_arrivals c s hour a x None part is = is
hour_arrivals c s hour a x (Some d) part is =
    let upto = earlier_rows s hour ++ own_rows s hour in
    let ons = due_in (is_known s) c hour d a.travel upto in
    let hidden : Row → Bool = λ z. not (is_seen (is_known s) hour z) in
    let p = length_filter (counts_in c hour) (arrivals_at (is_known s) d a.travel upto) in
    let q = arrivals_few (is_known s) d a.travel upto in
    let r = length_filter hidden ons in
    let f = ons_few (is_fault_row (is_known s)) d (earlier_rows s hour) (own_rows s hour) in
    let few = part.few in
    let low = part_few (earlier_rows s hour) (own_rows s hour) part in
    record {
      arrivals = is.arrivals ∙ length_plain ons (omega (arith, p, q, few));
      judged = is.judged;
      unseen = is.unseen ∙ length_plain (filter hidden ons) (omega (arith, p, q, r, few));
      fault = is.fault ∙ length_plain (ons_of d (faults_from (is_known s) (earlier_rows s hour) (own_rows s hour))) (omega (arith, f, low));
    }

-- each arrival counts in the window
all_count : (c : Settings) (x : Row) → counts_between c 0 c.window.hours x ≡ true
all_count c x =
    let hours = c.window.hours in
    and_from (nat_le (point 0) x.at) (eqb hours hours || nat_lt x.at (point hours)) (le-leb (point 0) x.at (omega arith)) (or_left (eqb hours hours) (nat_lt x.at (point hours)) (eq-eqb hours hours refl))

-- and is seen exactly where its tenth is known
seen_known : (s : Store) (hours : ℕ) (x : Row) → length s.hours ≡ hours → is_known s x.at ≡ is_seen_by (is_known s) hours x
seen_known s hours x size = elim (cases_lt x.at (point hours)) [
  | inl lt ↦ sym (ap (λ v. is_known s x.at && v) (lt-ltb x.at (point hours) lt) ∙ and_true (is_known s x.at))
  | inr ge ↦ let un = past_unknown s x.at (omega arith) in un ∙ sym (and_left (is_known s x.at) (nat_lt x.at (point hours)) un)
]

log_arrivals : (c : Settings) (s : Store) (a : Approach) (x : ArrivalSum) (o : Option ℕ) → length s.hours ≡ c.window.hours → HaveTotals c s a x o → HavePlainArrivals c s (λ d. filter (counts_between c 0 c.window.hours) (arrivals_at (is_known s) d a.travel (known_rows s))) (is_seen_by (is_known s) c.window.hours) [] (known_rows s) a x o
log_arrivals c s a x None size is = is
log_arrivals c s a x (Some d) size is =
    let sees : Row → Bool = is_seen_by (is_known s) c.window.hours in
    let ons = arrivals_at (is_known s) d a.travel (known_rows s) in
    let faults = ons_of d (faults_from (is_known s) [] (known_rows s)) in
    let all : filter (counts_between c 0 c.window.hours) ons ≡ ons = filter_all (counts_between c 0 c.window.hours) ons (λ k e lt. all_count c (get_or ons k e)) in
    let seen = filter_same (λ y. is_known s y.at) sees ons (λ k e lt. seen_known s c.window.hours (get_or ons k e) size) in
    let hidden = filter_same (λ y. not (is_known s y.at)) (λ y. not (sees y)) ons (λ k e lt. ap (λ v. not v) (seen_known s c.window.hours (get_or ons k e) size)) in
    let plain : ArePlainArrivals c s a sees ons faults x = record {
      arrivals = is.arrivals;
      judged = subst (λ ys. AreJudged (MayBeIn c s) c a.phase is_green ys x.green x.not_green x.undecided) seen is.judged;
      unseen = is.unseen ∙ ap (λ (ys : List Row). length ys) hidden;
      fault = is.fault;
    } in
    subst (λ ys. ArePlainArrivals c s a sees ys faults x) (sym all) plain

acted_plain : (c : Settings) (s : Store) (before rows : List Row) (a : Approach) (x : ArrivalSum) (o : Option ℕ) → AreOfLog before rows → HasActuations (MayBeIn c s) (is_known s) c a before rows x o → HavePlainActuations c s before rows a x o
acted_plain c s before rows a x None part is = is
acted_plain c s before rows a x (Some d) part is =
    let p = ons_few (is_arrival (is_known s)) d before rows in
    let f = ons_few (is_fault_row (is_known s)) d before rows in
    let low = part_few before rows part in
    record {
      actuations = is.actuations ∙ length_plain (ons_of d (arrivals_from (is_known s) before rows)) (omega (arith, p, low));
      judged = is.judged;
      fault = is.fault ∙ length_plain (ons_of d (faults_from (is_known s) before rows)) (omega (arith, f, low));
    }

-- ---- a report

each_pair : {A S : Type 0} (P Q R : A → S → Type 0) (xs : List A) (ss : List S) → ((a : A) (x : S) → P a x → Q a x → R a x) → Each P xs ss → Each Q xs ss → Each R xs ss
each_pair P Q R [] [] h p q = tt
each_pair P Q R [] (y ∷ ys) h p q = absurd p
each_pair P Q R (x ∷ xs) [] h p q = absurd p
each_pair P Q R (x ∷ xs) (y ∷ ys) h p q = (h x y p.0 q.0, each_pair P Q R xs ys h p.1 q.1)

peds_plain : (known : ℕ → Bool) (c : Settings) (before rows : List Row) (n : OtherNumbers) → AreOfLog before rows → AreNumbers known c before rows n → EachOf (has_number c.peds) (IsPlainPed known c before rows) 17 n.peds
peds_plain known c before rows n part is = each_as (has_number c.peds) (HasDelays (delays_from known c before rows)) (IsPlainPed known c before rows) 17 n.peds (λ p x so. ped_plain known c before rows p x part so) is.peds

preempts_plain : (known : ℕ → Bool) (c : Settings) (before rows : List Row) (n : OtherNumbers) → AreOfLog before rows → AreNumbers known c before rows n → EachOf (has_number c.preempts) (IsPlainPreempt known c before rows) 17 n.preempts
preempts_plain known c before rows n part is = each_as (has_number c.preempts) (HasEvents (events_from known c before rows)) (IsPlainPreempt known c before rows) 17 n.preempts (λ p x so. preempt_plain known c before rows p x part so) is.preempts

hour_plain : (c : Settings) (s : Store) (all : List Numbers) (hour : ℕ) (z : Numbers) → IsStore s → IsReport c s all → hour < length s.hours → IsHourOf c s hour (get_or all hour z)
hour_plain c s all hour z store is lt =
    let here = is.each hour z lt in
    let measures = here.measures in
    let part = hour_part s hour store lt in
    let known = is_known s in
    let before = earlier_rows s hour in
    let rows = own_rows s hour in
    let n = get_or all hour z in
    let May = MayBeIn c s in
    let long : 36000 ≡ 36000 * (hour + 1 - hour) = omega arith in
    let next : first_tenth hour + 36000 ≡ first_tenth (hour + 1) = omega arith in
    let judged = each_of_places (λ a x. HasJudged May known c before rows hour a x) c.approaches n.arrivals measures.judged.size measures.judged.each in
    record {
      held_hours = here.held_hours ∙ hour_held s hour (λ h. cond (is_some h) 1 0) lt;
      held_rows = here.held_rows ∙ hour_held s hour count_in lt;
      known_tenths = here.known_tenths ∙ ap (λ (k : ℕ). count_from known (first_tenth hour) k) long;
      lines = here.lines;
      are_lines = hour_lines c s hour here.lines here.are_lines;
      rules = here.rules;
      phases = phases_plain known c before rows n.splits part measures.phases;
      peds = peds_plain known c before rows n.others part measures.numbers;
      preempts = preempts_plain known c before rows n.others part measures.numbers;
      coordination = λ on. rows_plain rows n.others.coordination (part_few before rows part) (measures.numbers.coordination on);
      off = measures.numbers.off;
      states = hour_states (MeetsIn c s) c (first_tenth hour) (first_tenth (hour + 1)) next n.others measures.states;
      verdicts = each_of (λ a x. IsApproachSum (log_of c.specs s) c hour (before ++ rows) x (bar_with a a.stop_bar)) (λ a x. HavePlainVerdicts (log_of c.specs s) c (ending (first_tenth hour) (first_tenth (hour + 1))) (open_by c (hour + 1)) (before ++ rows) x (bar_with a a.stop_bar)) c.approaches n.failures
          (λ a x so. hour_verdicts c s hour x (bar_with a a.stop_bar) part so) measures.verdicts;
      approaches = each_pair (λ a x. HasJudged May known c before rows hour a x) (λ a x. HavePlainCycles known c before rows a x a.advance) (λ a x. IsApproachPart c s hour (hour + 1) before rows a x) c.approaches n.arrivals
          (λ a x so whole. record { arrivals = hour_arrivals c s hour a x a.advance part so.arrivals; cycles = whole; actuations = acted_plain c s before rows a x a.stop_bar part so.actuations }) judged (each_cycles known c before rows n.arrivals part measures.whole_cycles);
    }

total_plain : (c : Settings) (s : Store) (all : List Numbers) → IsStore s → length s.hours ≡ c.window.hours → IsReport c s all → IsWindowOf c s (total_of all)
total_plain c s all store size is =
    let hours = c.window.hours in
    let total = log_total c s all store is in
    let part = log_part s store in
    let known = is_known s in
    let rows = known_rows s in
    let n = total_of all in
    let lines = lines_total c s all hours store is size in
    record {
      held_hours = hours_total c s all is hours size;
      held_rows = rows_total c s all is hours size;
      known_tenths = known_total c s all store is hours size;
      lines = lines.lines;
      are_lines = lines.are_lines;
      rules = lines.counts;
      phases = phases_plain known c [] rows n.splits part total.splits;
      peds = peds_plain known c [] rows n.others part total.others;
      preempts = preempts_plain known c [] rows n.others part total.others;
      coordination = λ on. rows_plain rows n.others.coordination (part_few [] rows part) (total.others.coordination on);
      off = total.others.off;
      states = subst (λ (k : ℕ). AreStatesBetween (MeetsIn c s) 0 (first_tenth k) c n.others) size (state_totals c s all store is);
      verdicts = each_of (λ a x. IsApproachTotal (log_of c.specs s) c x (bar_with a a.stop_bar)) (λ a x. HavePlainVerdicts (log_of c.specs s) c (ending 0 (first_tenth hours)) (open_by c hours) rows x (bar_with a a.stop_bar)) c.approaches n.failures
          (λ a x so. log_verdicts c s x (bar_with a a.stop_bar) store size so) (split_totals c s all store size is);
      approaches = each_pair (AreTotalsOf c s) (λ a x. HavePlainCycles known c [] rows a x a.advance) (λ a x. IsApproachPart c s 0 hours [] rows a x) c.approaches n.arrivals
          (λ a x so whole. record { arrivals = log_arrivals c s a x a.advance size so.arrivals; cycles = whole; actuations = acted_plain c s [] rows a x a.stop_bar part so.actuations }) (arrival_totals c s all store size is) (each_cycles known c [] rows n.arrivals part total.arrivals);
    }

pub sums_plain : SumsArePlain
sums_plain c s all store size is = (λ hour d lt. hour_plain c s all hour d store is lt, total_plain c s all store size is)
