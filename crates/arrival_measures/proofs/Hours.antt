-- The numbers of an hour, from its rows and its view.
use Rattle.std.proofs.Common.{◌≡◌, ℕ, ◌+◌, ◌<◌, ◌≤◌, Bool, true, false, ◌&&◌, ◌||◌, leb, ltb, List, [], ◌∷◌, ◌++◌, Option, Some, None, length, get_or, map, refl, ap, sym, subst, ◌∙◌, arith, inl, inr}
use Rattle.std.specs.Prelude.{All, IfSome}
use Rattle.std.specs.List.{filter}
use Rattle.std.proofs.lemmas.Bool.{cases_Bool, cases_lt, leb-true, le-ltb, lt-ltb, and_from}
use Rattle.std.proofs.lemmas.List.Elements.{All-nil, All-cons, All-filter, All-head, All-tail, filter_passes}
use Rattle.sig_base.specs.declared.values.Row.{Row}
use Rattle.gap_map.specs.declared.stretch.Stretch.{Stretch}
use Rattle.hour_sweep.specs.Sums.{capped}
use Rattle.hour_sweep.specs.Rows.{known_rows}
use Rattle.hour_sweep.specs.Hours.{AreOrdered, IsHour, point}
use Rattle.hour_sweep.proofs.Orders.{below_end, ordered-append, rise_ordered}
use Rattle.reach.specs.Runs.{State}
use Rattle.service_cut.specs.Cut.{CutLists, IsCut}
use Rattle.board.specs.Logs.{HourLog}
use Rattle.service_cut.proofs.YellowEnds.{from_first}
use Rattle.hour_sweep.proofs.SumCommon.{capped_none}
use Rattle.ring_config.specs.Settings.{Settings, spec_place}
use Rattle.ring_config.specs.declared.items.Approach.{Approach}
use Rattle.arrival_measures.specs.Arrivals.{is_on, ons_of}
use Rattle.arrival_measures.proofs.Own.{filter_filter}
use Rattle.arrival_measures.specs.declared.carry.Crossing.{Crossing}
use Rattle.arrival_measures.specs.declared.faults.Flag.{Flag}
use Rattle.arrival_measures.specs.declared.judged.Judged.{Judged}
use Rattle.arrival_measures.specs.declared.cycles.CycleSum.{CycleSum}
use Rattle.arrival_measures.specs.declared.sources.Sources.{Sources}
use Rattle.arrival_measures.specs.declared.ahead.ApproachHour.{ApproachHour}
use Rattle.arrival_measures.specs.declared.sums.ArrivalSum.{ArrivalSum}
use Rattle.arrival_measures.specs.Crossing.{CarryParts, IsCarry, crossing_of, flags_of, has_detector}
use Rattle.arrival_measures.specs.Faults.{arrivals_from, faults_from, is_arrival, passing_from}
use Rattle.arrival_measures.specs.Hours.{HasArrivals, HasActuations, HasJudged, IsUnheld, due_in, is_last, is_seen}
use Rattle.arrival_measures.specs.Judged.{AllPass, CountOf, NonePass, OnlySomePass, is_green, is_red, phase_channel}
use Rattle.arrival_measures.specs.Results.{IsSeenSum, IsSumBy, IsUnseenSum}
use Rattle.arrival_measures.specs.Travel.{arrivals_at, from_tenth}
use Rattle.arrival_measures.specs.Steps.{AreGiven, AreJudgedRows, AreSources, arriving_with, due_of, no_judged, of_approaches, rows_with, sum_of}
use Rattle.arrival_measures.proofs.Arriving.{ons_kept}
use Rattle.arrival_measures.proofs.Counting.{judged_none, none_of}
use Rattle.arrival_measures.proofs.Each.{got_map}
use Rattle.arrival_measures.proofs.Travels.{at_ordered, kept_ordered, late_ordered, wider}

-- the arrivals that count

due_is : (known : ℕ → Bool) (c : Settings) (hour d v : ℕ) (rows : List Row) → due_of (is_last c hour) (point (hour + 1)) (from_tenth (point hour) (arrivals_at known d v rows)) ≡ due_in known c hour d v rows
due_is known c hour d v rows = filter_filter (λ x. is_last c hour || ltb x.at (point (hour + 1))) (λ x. leb (point hour) x.at) (arrivals_at known d v rows)

none_due : (last : Bool) (end : ℕ) → due_of last end [] ≡ []
none_due last end = refl

-- of an approach

green_of : (May : ℕ → ℕ → State → Type 0) (known : ℕ → Bool) (c : Settings) (a : Approach) (before seen : List Row) (hour place : ℕ) (g r : Judged) (fault red_fault : ℕ) (s : CycleSum) (due faults : List Row) (o : Option ℕ)
    → spec_place c.specs (phase_channel a.phase) ≡ Some place → AreJudgedRows is_green (May place) (is_seen known hour) due g
    → due ≡ due_of (is_last c hour) (point (hour + 1)) (arriving_with known (point hour) (before ++ seen) a o) → fault ≡ capped (length faults) → faults ≡ rows_with (of_approaches c (faults_from known before seen)) o
    → IfSome o (λ d. has_detector c d ≡ true) → HasArrivals May known c a before seen hour (sum_of g fault r red_fault s) o
green_of May known c a before seen hour place g r fault red_fault s due faults None at is d f ff has =
    let none = none_of is_green (May place) (is_seen known hour) g (subst (λ (zs : List Row). AreJudgedRows is_green (May place) (is_seen known hour) zs g) d is) in
    let no_fault : fault ≡ 0 = f ∙ ap (λ zs. capped (length zs)) ff ∙ capped_none in
    (ap (λ (j : Judged). j.rows) none, ap (λ (j : Judged). j.all) none, ap (λ (j : Judged). j.none) none, ap (λ (j : Judged). j.some) none, ap (λ (j : Judged). j.unseen) none, no_fault)
green_of May known c a before seen hour place g r fault red_fault s due faults (Some d) at is e f ff has =
    let same : due ≡ due_in known c hour d a.travel (before ++ seen) = e ∙ due_is known c hour d a.travel (before ++ seen) in
    let j = subst (λ (zs : List Row). AreJudgedRows is_green (May place) (is_seen known hour) zs g) same is in
    record {
      arrivals = j.count;
      judged = record { place = place; is_place = at; all_pass = j.all; none_pass = j.none; some_pass = j.some };
      unseen = j.unseen;
      fault = f ∙ ap (λ zs. capped (length zs)) (ff ∙ ons_kept c d (faults_from known before seen) has);
    }

-- rows that are all seen

pub all_kept : (T : Row → Bool) (xs : List Row) → All (λ x. T x ≡ true) xs → filter T xs ≡ xs
all_kept T [] h = refl
all_kept T (x ∷ xs) h = rw (All-head (λ z. T z ≡ true) x xs h) (ap (λ zs. x ∷ zs) (all_kept T xs (All-tail (λ z. T z ≡ true) x xs h)))

pub passing_all : (P : Row → Type 0) (test : List Row → Row → Bool) (before xs : List Row) → All P xs → All P (passing_from test before xs)
passing_all P test before [] h = All-nil P
passing_all P test before (x ∷ xs) h =
    let more = passing_all P test (before ++ x ∷ []) xs (All-tail P x xs h) in
    elim (cases_Bool (test before x)) [
      | inl e ↦ rw e (All-cons P x (passing_from test (before ++ x ∷ []) xs) (All-head P x xs h) more)
      | inr e ↦ rw e more
    ]

joined_all : (known : ℕ → Bool) (end : ℕ) (xs : List Row) → All (λ x. x.at < end) xs → All (λ x. known x.at ≡ true) xs → All (λ x. (known x.at && ltb x.at end) ≡ true) xs
joined_all known end xs low kn = λ k d lt. and_from (known (get_or xs k d).at) _ (kn k d lt) (lt-ltb (get_or xs k d).at end (low k d lt))

hour_seen : (known : ℕ → Bool) (hour : ℕ) (rows : List Row) → AreOrdered (point hour) (point hour + 36000) rows → All (λ x. is_seen known hour x ≡ true) (known_rows known rows)
hour_seen known hour rows or =
    let end : point hour + 36000 ≡ point (hour + 1) = omega arith in
    let low = subst (λ (n : ℕ). All (λ (x : Row). x.at < n) rows) end (below_end (point hour) (point hour + 36000) rows or) in
    joined_all known (point (hour + 1)) (known_rows known rows) (All-filter (λ (x : Row). known x.at) (λ x. x.at < point (hour + 1)) rows low) (filter_passes (λ (x : Row). known x.at) rows)

red_seen : (known : ℕ → Bool) (hour d : ℕ) (before rows : List Row) → AreOrdered (point hour) (point hour + 36000) rows → filter (is_seen known hour) (ons_of d (arrivals_from known before (known_rows known rows))) ≡ ons_of d (arrivals_from known before (known_rows known rows))
red_seen known hour d before rows or =
    let seen = hour_seen known hour rows or in
    let P : Row → Type 0 = λ x. is_seen known hour x ≡ true in
    all_kept (is_seen known hour) (ons_of d (arrivals_from known before (known_rows known rows))) (All-filter (is_on d) P (arrivals_from known before (known_rows known rows)) (passing_all P (is_arrival known) before (known_rows known rows) seen))

red_of : (May : ℕ → ℕ → State → Type 0) (known : ℕ → Bool) (c : Settings) (a : Approach) (before rows : List Row) (hour place : ℕ) (g r : Judged) (fault red_fault : ℕ) (s : CycleSum) (at_bar faults : List Row) (o : Option ℕ) → AreOrdered (point hour) (point hour + 36000) rows
    → spec_place c.specs (phase_channel a.phase) ≡ Some place → AreJudgedRows is_red (May place) (is_seen known hour) at_bar r
    → at_bar ≡ rows_with (of_approaches c (arrivals_from known before (known_rows known rows))) o → red_fault ≡ capped (length faults) → faults ≡ rows_with (of_approaches c (faults_from known before (known_rows known rows))) o
    → IfSome o (λ d. has_detector c d ≡ true) → HasActuations May known c a before (known_rows known rows) (sum_of g fault r red_fault s) o
red_of May known c a before rows hour place g r fault red_fault s at_bar faults None or at is d f ff has =
    let none = none_of is_red (May place) (is_seen known hour) r (subst (λ (zs : List Row). AreJudgedRows is_red (May place) (is_seen known hour) zs r) d is) in
    let no_fault : red_fault ≡ 0 = f ∙ ap (λ zs. capped (length zs)) ff ∙ capped_none in
    (ap (λ (j : Judged). j.rows) none, ap (λ (j : Judged). j.all) none, ap (λ (j : Judged). j.none) none, ap (λ (j : Judged). j.some) none, no_fault)
red_of May known c a before rows hour place g r fault red_fault s at_bar faults (Some d) or at is e f ff has =
    let X = ons_of d (arrivals_from known before (known_rows known rows)) in
    let same : at_bar ≡ X = e ∙ ons_kept c d (arrivals_from known before (known_rows known rows)) has in
    let j = subst (λ (zs : List Row). AreJudgedRows is_red (May place) (is_seen known hour) zs r) same is in
    let all_seen = red_seen known hour d before rows or in
    record {
      actuations = j.count;
      judged = record {
        place = place;
        is_place = at;
        all_pass = subst (λ (zs : List Row). CountOf (λ (x : Row). AllPass is_red (May place x.at)) zs r.all) all_seen j.all;
        none_pass = subst (λ (zs : List Row). CountOf (λ (x : Row). NonePass is_red (May place x.at)) zs r.none) all_seen j.none;
        some_pass = subst (λ (zs : List Row). CountOf (λ (x : Row). OnlySomePass is_red (May place x.at)) zs r.some) all_seen j.some;
      };
      fault = f ∙ ap (λ zs. capped (length zs)) (ff ∙ ons_kept c d (faults_from known before (known_rows known rows)) has);
    }

-- where the rows stand

pub late_from : (known : ℕ → Bool) (t : ℕ) (rows : List Row) (a : Approach) (last : Bool) (end : ℕ) (o : Option ℕ) → All (λ x. t ≤ x.at) (due_of last end (arriving_with known t rows a o))
late_from known t rows a last end None = All-nil (λ x. t ≤ x.at)
late_from known t rows a last end (Some d) =
    let passes = filter_passes (λ (x : Row). leb t x.at) (arrivals_at known d a.travel rows) in
    All-filter (λ (x : Row). last || ltb x.at end) (λ x. t ≤ x.at) (from_tenth t (arrivals_at known d a.travel rows)) (λ k d lt. leb-true t _ (passes k d lt))

-- without a known tenth nothing is seen
pub unheld_none : (known : ℕ → Bool) (hour : ℕ) (xs : List Row) → IsUnheld known hour → All (λ x. point hour ≤ x.at) xs → All (λ x. is_seen known hour x ≡ false) xs
unheld_none known hour xs un low = λ k d lt. hidden (get_or xs k d) (low k d lt)
  where
    no_first : (a b : Bool) → a ≡ false → (a && b) ≡ false
    no_first false b e = refl
    no_first true b e = absurd (cc)

    no_second : (a b : Bool) → b ≡ false → (a && b) ≡ false
    no_second true b e = e
    no_second false b e = refl

    hidden : (x : Row) → point hour ≤ x.at → is_seen known hour x ≡ false
    hidden x lo = elim (cases_lt x.at (point (hour + 1))) [
      | inl hi ↦ no_first (known x.at) (ltb x.at (point (hour + 1))) (un x.at lo hi)
      | inr past ↦ no_second (known x.at) (ltb x.at (point (hour + 1))) (le-ltb x.at (point (hour + 1)) past)
    ]

-- the hour

pub hour_ordered : (known : ℕ → Bool) (hour : ℕ) (rows : List Row) (ss : List Stretch) → IsHour known hour rows ss → AreOrdered (point hour) (point hour + 36000) rows
hour_ordered known hour rows ss h = rise_ordered (point hour) (point hour + 36000) rows (omega arith) h.are_rows.rise

pub carry_ordered : (known : ℕ → Bool) (hour : ℕ) (before rows : List Row) (ss : List Stretch) → IsHour known hour rows ss → AreOrdered 0 (point hour) before → AreOrdered 0 (point (hour + 1)) (before ++ known_rows known rows)
carry_ordered known hour before rows ss h first =
    let end : point hour + 36000 ≡ point (hour + 1) = omega arith in
    subst (λ (n : ℕ). AreOrdered 0 n (before ++ known_rows known rows)) end
    (ordered-append 0 (point hour) (point hour + 36000) before (known_rows known rows) first (kept_ordered (λ x. known x.at) (point hour) (point hour + 36000) (point hour) rows (omega arith) (hour_ordered known hour rows ss h)))

pub given_of : (known : ℕ → Bool) (c : Settings) (before rows : List Row) (hour : ℕ) (s : Sources) (carry : CarryParts) (crossings : List Crossing) (cuts : CutLists) → AreSources known c before rows hour s → IsCarry known c before hour carry → crossings ≡ carry.crossings → IsCut known c.phases before hour rows cuts → AreGiven known c before rows hour s crossings cuts
given_of known c before rows hour s carry crossings cuts are is e cut = record { sources = are; cut = cut; crossings_are = e ∙ is.crossings_are }

pub crossing_is : (known : ℕ → Bool) (c : Settings) (before : List Row) (hour : ℕ) (crossings : List Crossing) (place : ℕ) (none crossing : Crossing) (a d : Approach) → crossings ≡ map (crossing_of known (point hour) before) c.approaches → place < length c.approaches → crossing ≡ get_or crossings place none → a ≡ get_or c.approaches place d → crossing ≡ crossing_of known (point hour) before a
crossing_is known c before hour crossings place none crossing a d e lt b at = b ∙ ap (λ zs. get_or zs place none) e ∙ got_map (crossing_of known (point hour) before) c.approaches place d none lt ∙ ap (λ z. crossing_of known (point hour) before z) (sym at)

pub carry_is : (known : ℕ → Bool) (c : Settings) (before : List Row) (hour : ℕ) (rows : List Row) (ss : List Stretch) (old new : CarryParts) (flags : List (Option Flag)) → IsHour known hour rows ss → IsCarry known c before hour old → flags ≡ flags_of known c (point (hour + 1)) (before ++ known_rows known rows) → new.crossings ≡ map (crossing_of known (point (hour + 1)) (before ++ known_rows known rows)) c.approaches → new.flags ≡ flags → IsCarry known c (before ++ known_rows known rows) (hour + 1) new
carry_is known c before hour rows ss old new flags h is f n e =
    let or = carry_ordered known hour before rows ss h is.ordered in
    record { earlier = below_end 0 (point (hour + 1)) (before ++ known_rows known rows) or; ordered = or; crossings_are = n; flags_are = e ∙ f }

pub judged_both : (May : ℕ → ℕ → State → Type 0) (known : ℕ → Bool) (c : Settings) (a : Approach) (before rows : List Row) (hour place : ℕ) (g r : Judged) (fault red_fault : ℕ) (s : CycleSum) (due faults at_bar bar_faults : List Row) → AreOrdered (point hour) (point hour + 36000) rows → spec_place c.specs (phase_channel a.phase) ≡ Some place
    → AreJudgedRows is_green (May place) (is_seen known hour) due g → due ≡ due_of (is_last c hour) (point (hour + 1)) (arriving_with known (point hour) (before ++ known_rows known rows) a a.advance) → fault ≡ capped (length faults) → faults ≡ rows_with (of_approaches c (faults_from known before (known_rows known rows))) a.advance → IfSome a.advance (λ d. has_detector c d ≡ true)
    → AreJudgedRows is_red (May place) (is_seen known hour) at_bar r → at_bar ≡ rows_with (of_approaches c (arrivals_from known before (known_rows known rows))) a.stop_bar → red_fault ≡ capped (length bar_faults) → bar_faults ≡ rows_with (of_approaches c (faults_from known before (known_rows known rows))) a.stop_bar → IfSome a.stop_bar (λ d. has_detector c d ≡ true)
    → HasJudged May known c before (known_rows known rows) hour a (sum_of g fault r red_fault s)
judged_both May known c a before rows hour place g r fault red_fault s due faults at_bar bar_faults or at gi gd gf gff ga ri rd rf rff ra = record {
  arrivals = green_of May known c a before (known_rows known rows) hour place g r fault red_fault s due faults a.advance at gi gd gf gff ga;
  actuations = red_of May known c a before rows hour place g r fault red_fault s at_bar bar_faults a.stop_bar or at ri rd rf rff ra;
}

-- of no row there is none of a detector
pub rows_none : (o : Option ℕ) → [] ≡ rows_with [] o
rows_none None = refl
rows_none (Some d) = refl

pub none_red : (known : ℕ → Bool) (hour place : ℕ) (r : Judged) → r ≡ no_judged → AreJudgedRows is_red (λ _ _. ⊥) (is_seen known hour) [] r
none_red known hour place r e = judged_none is_red (λ _ _. ⊥) (is_seen known hour) r e

pub zero_count : 0 ≡ capped (length {A = Row} [])
zero_count = sym capped_none

pub arriving_ordered : (known : ℕ → Bool) (t : ℕ) (before seen : List Row) (a : Approach) (o : Option ℕ) → AreOrdered 0 t before → AreOrdered t (t + 36000) seen → a.travel ≤ 300 → AreOrdered t (t + 36300) (arriving_with known t (before ++ seen) a o)
arriving_ordered known t before seen a None first or tr = omega arith
arriving_ordered known t before seen a (Some d) first or tr =
    let shifted = at_ordered known d a.travel 0 (t + 36000) (before ++ seen) (ordered-append 0 t (t + 36000) before seen first or) in
    late_ordered t (0 + a.travel) (t + 36300) (arrivals_at known d a.travel (before ++ seen)) (omega arith) (wider (0 + a.travel) (t + 36000 + a.travel) (t + 36300) (arrivals_at known d a.travel (before ++ seen)) (omega arith) shifted)

-- the tenths of arrivals

abbrev pub HourTenths : ℕ → List Row → Type 0
HourTenths hour xs = All (λ x. (point hour ≤ x.at) × (x.at < point hour + 36000)) xs

both_bounds : (a b : ℕ) (xs : List Row) → All (λ x. a ≤ x.at) xs → All (λ x. x.at < b) xs → All (λ x. (a ≤ x.at) × (x.at < b)) xs
both_bounds a b xs lo hi = λ k d lt. (lo k d lt, hi k d lt)

arrivals_bounded : (known : ℕ → Bool) (hour : ℕ) (c : Settings) (before rows : List Row) → AreOrdered (point hour) (point hour + 36000) rows → HourTenths hour (of_approaches c (arrivals_from known before (known_rows known rows)))
arrivals_bounded known hour c before rows or =
    let P : Row → Type 0 = λ x. (point hour ≤ x.at) × (x.at < point hour + 36000) in
    let all = both_bounds (point hour) (point hour + 36000) rows (from_first (point hour) (point hour + 36000) (point hour) rows (omega arith) or) (below_end (point hour) (point hour + 36000) rows or) in
    All-filter (λ x. has_detector c x.param) P (arrivals_from known before (known_rows known rows)) (passing_all P (is_arrival known) before (known_rows known rows) (All-filter (λ x. known x.at) P rows all))

pub bar_low : (known : ℕ → Bool) (hour : ℕ) (c : Settings) (before rows : List Row) (o : Option ℕ) → AreOrdered (point hour) (point hour + 36000) rows → All (λ x. point hour ≤ x.at) (rows_with (of_approaches c (arrivals_from known before (known_rows known rows))) o)
bar_low known hour c before rows None or = All-nil (λ x. point hour ≤ x.at)
bar_low known hour c before rows (Some d) or = All-filter (is_on d) (λ x. point hour ≤ x.at) (of_approaches c (arrivals_from known before (known_rows known rows))) (λ k e l. (arrivals_bounded known hour c before rows or k e l).0)

pub has_some : (c : Settings) (o : Option ℕ) (d : ℕ) → o ≡ Some d → IfSome o (λ n. has_detector c n ≡ true) → has_detector c d ≡ true
has_some c o d e h = subst (λ (q : Option ℕ). IfSome q (λ n. has_detector c n ≡ true)) e h

-- by the view, and without one

pub seen_by : (c : Settings) (view : HourLog) (s : Sources) (a : Approach) (h : ApproachHour) (sum : ArrivalSum) → IsSeenSum c view s a h sum → IsSumBy c (Some view) s a h sum
seen_by c view s a h sum is known before rows hour None are by of = absurd by
seen_by c view s a h sum is known before rows hour (Some log) are by of = is known before rows hour log are by of

pub unseen_by : (c : Settings) (s : Sources) (a : Approach) (h : ApproachHour) (sum : ArrivalSum) → IsUnseenSum c s a h sum → IsSumBy c None s a h sum
unseen_by c s a h sum is known before [] hour None are by of = is known before hour are by of
unseen_by c s a h sum is known before [] hour (Some log) are by of = absurd by
unseen_by c s a h sum is known before (x ∷ rows) hour log are by of = absurd by
