-- What a store says at an hour point is one.
use Rattle.std.proofs.Common.{◌≡◌, ◌∙◌, ◌↔◌, refl, sym, ap, subst, ℕ, suc, ◌<◌, ◌≤◌, ℤ, pos, ◌-ℤ◌, Bool, true, nat_lt, Option, Some, None, List, [], ◌∷◌, length, get_or, ◌⊎◌, inl, inr, arith}
use Rattle.std.proofs.lemmas.Bool.{and_parts}
use Rattle.sig_base.specs.declared.values.Row.{Row}
use Rattle.sig_base.specs.Numbers.{has_number, has_phase}
use Rattle.event_codes.specs.declared.channels.Kind.TheVariants.{Detector}
use Rattle.span_set.specs.declared.set.Span.{Span}
use Rattle.span_set.proofs.Sets.{int_cases}
use Rattle.reach.specs.Runs.{State, state}
use Rattle.reach.proofs.Later.{same_admits}
use Rattle.hour_store.specs.Store.{IsStore, Store, is_known}
use Rattle.board.specs.Logs.{first_tenth, no_spec}
use Rattle.board.specs.Places.{AreSamePasts, HaveSameStates}
use Rattle.board.proofs.Starting.{same_latest}
use Rattle.signal_log.specs.Log.{Log, log_of}
use Rattle.signal_log.specs.Points.{ArePastsAt}
use Rattle.ring_config.specs.Settings.{Settings, is_tracked_as, spec_place}
use Rattle.ring_config.specs.Sound.{IsSound}
use Rattle.ring_config.specs.declared.items.Approach.{Approach}
use Rattle.ring_config.proofs.TrackLaws.{same_both}
use Rattle.hour_sweep.specs.Hours.{point}
use Rattle.hour_sweep.specs.Numbers.{table}
use Rattle.hour_sweep.proofs.Tables.{table_at, table_same}
use Rattle.service_cut.specs.Parts.{part_of, room}
use Rattle.service_cut.proofs.Rooms.{has_room}
use Rattle.other_measures.specs.Crossing.{Crossing, places}
use Rattle.other_measures.specs.Peds.{ped_of}
use Rattle.other_measures.specs.Preempts.{preempt_of}
use Rattle.other_measures.proofs.Starts.{number_low}
use Rattle.stop_bar.specs.Crossing.{Crossing as AtBar}
use Rattle.stop_bar.specs.declared.bars.StopBar.{StopBar}
use Rattle.stop_bar.specs.All.{AreAtBars, IsPlaceOf, bar_with, bars_of}
use Rattle.stop_bar.specs.Bars.{IsAtBar}
use Rattle.stop_bar.specs.Lists.{Each}
use Rattle.arrival_measures.specs.Points.{detector_channel as detector}
use Rattle.stop_bar.proofs.Hours.{crosses_once}
use Rattle.stop_bar.proofs.ToldAt.{place_channel}
use Rattle.split_measures.proofs.Approaches.{place_there, some_there}
use Rattle.arrival_measures.specs.declared.faults.Flag.{Flag}
use Rattle.arrival_measures.specs.Crossing.{CarryParts, flag_of, has_detector}
use Rattle.arrival_measures.specs.Faults.{faulty}
use Rattle.hour_work.specs.Sure.{LeadsToFault, fault}
use Rattle.hour_work.proofs.Before.{faulty_by_states}
use Rattle.hour_work.specs.Moved.{CarriesAreOne, CarryIsSame, FutureIsSame, FuturesAreOne, IsSameCarry, IsSameFuture, LeadsTo, SaySame}
use Rattle.hour_work.specs.Points.{Carried, IsFutureAt}
use Rattle.hour_work.specs.Rows.{earlier_rows}
use Rattle.hour_work.proofs.WholeLog.{earlier_ordered, rows_after, rows_of_order}

-- ---- states

module _ (c : Settings) (s t : Store) (k : ℕ) where
  one_past : (a b : List (List (List Span))) → ArePastsAt (log_of c.specs s) k a → ArePastsAt (log_of c.specs t) k b → IsSameCarry c s t k → (i : ℕ) → i < length c.specs → HaveSameStates (get_or a i []) (get_or b i [])
  one_past a b x y same i lt = (
    (x.shape.1 i no_spec lt).0 ∙ sym (y.shape.1 i no_spec lt).0,
    λ u. (
      λ h. (y.states i lt u).1 ((same.states i u lt).0 ((x.states i lt u).0 h)),
      λ h. (x.states i lt u).1 ((same.states i u lt).1 ((y.states i lt u).0 h)),
    ),
  )

  one_pasts : (a b : List (List (List Span))) → ArePastsAt (log_of c.specs s) k a → ArePastsAt (log_of c.specs t) k b → IsSameCarry c s t k → AreSamePasts a b
  one_pasts a b x y same = (x.shape.0 ∙ sym y.shape.0, λ i lt. one_past a b x y same i (subst (λ (n : ℕ). i < n) x.shape.0 lt))

  one_ahead : (a b : List (List (Option ℤ))) → IsFutureAt c s k a → IsFutureAt c t k b → IsSameFuture c s t k → (i : ℕ) → i < length c.specs → get_or a i [] ≡ get_or b i []
  one_ahead a b x y same i lt =
      (same_admits (get_or a i []) (get_or b i [])).1 (
        x.shape.1 i no_spec lt ∙ sym (y.shape.1 i no_spec lt),
        λ u. (
          λ h. (y.states i lt u).1 ((same i u lt).0 ((x.states i lt u).0 h)),
          λ h. (x.states i lt u).1 ((same i u lt).1 ((y.states i lt u).0 h)),
        ),
      )

pub futures_one : FuturesAreOne
futures_one c s t k a b x y same = same_latest a b (x.shape.0 ∙ sym y.shape.0) (λ i lt. one_ahead c s t k a b x y same i (subst (λ (n : ℕ). i < n) x.shape.0 lt))

pub future_same : FutureIsSame
future_same c s t k future x y i u lt = (λ h. (y.states i lt u).0 ((x.states i lt u).1 h), λ h. (x.states i lt u).0 ((y.states i lt u).1 h))

-- ---- what is under way

one_crossing : (a b : Crossing) → a.peds ≡ b.peds → a.preempts ≡ b.preempts → a ≡ b
one_crossing a b e f =
    let one : Crossing = record { peds = a.peds; preempts = a.preempts } in
    let other : Crossing = record { peds = b.peds; preempts = b.preempts } in
    let same : one ≡ other = rw (e, f) refl in
    same

one_open : (a b : CarryParts) → a.crossings ≡ b.crossings → a.flags ≡ b.flags → a ≡ b
one_open a b e f =
    let one : CarryParts = record { crossings = a.crossings; flags = a.flags } in
    let other : CarryParts = record { crossings = b.crossings; flags = b.flags } in
    let same : one ≡ other = rw (e, f) refl in
    same

cases_bar : (o : Option StopBar) → (o ≡ None) ⊎ ((b : StopBar) × (o ≡ Some b))
cases_bar None = inl refl
cases_bar (Some b) = inr (b, refl)

module _ (log : Log) (c : Settings) (k : ℕ) (before : List Row) where
  abbrev AtOf : StopBar → AtBar → Type 0
  AtOf b at = (i : ℕ) → IsPlaceOf c b i → IsAtBar log i c.phases b.phase before k at

  abbrev ArePlaced : List Approach → Type 0
  ArePlaced xs = (i : ℕ) (d a : Approach) (b : StopBar) → i < length xs → get_or xs i d ≡ a → bar_with a a.stop_bar ≡ Some b → (j : ℕ) × IsPlaceOf c b j

  one_more : (y : StopBar) (ys : List StopBar) (j : ℕ) → IsPlaceOf c y j → (us vs : List AtBar) → ((us vs : List AtBar) → Each AtOf ys us → Each AtOf ys vs → us ≡ vs) → Each AtOf (y ∷ ys) us → Each AtOf (y ∷ ys) vs → us ≡ vs
  one_more y ys j place [] vs rest h g = absurd h
  one_more y ys j place (a ∷ us) [] rest h g = absurd g
  one_more y ys j place (a ∷ us) (b ∷ vs) rest h g =
      let here : a ≡ b = crosses_once log j c.phases y.phase before k a b (h.0 j place) (g.0 j place) in
      let more : us ≡ vs = rest us vs h.1 g.1 in
      cc

  one_bars : (xs : List Approach) → ArePlaced xs → (us vs : List AtBar) → Each AtOf (bars_of xs) us → Each AtOf (bars_of xs) vs → us ≡ vs
  one_bars [] placed [] [] h g = refl
  one_bars [] placed [] (b ∷ vs) h g = absurd g
  one_bars [] placed (a ∷ us) vs h g = absurd h
  one_bars (x ∷ xs) placed us vs h g = elim (cases_bar (bar_with x x.stop_bar)) [
    | inl none ↦
        let same : bars_of (x ∷ xs) ≡ bars_of xs = rw none refl in
        one_bars xs (λ i d a b lt at is. placed (suc i) d a b (omega arith) at is) us vs (subst (λ (z : List StopBar). Each AtOf z us) same h) (subst (λ (z : List StopBar). Each AtOf z vs) same g)
    | inr (y, some) ↦
        let same : bars_of (x ∷ xs) ≡ y ∷ bars_of xs = rw some refl in
        let (j, place) = placed 0 x x y (omega arith) refl some in
        one_more y (bars_of xs) j place us vs (one_bars xs (λ i d a b lt at is. placed (suc i) d a b (omega arith) at is)) (subst (λ (z : List StopBar). Each AtOf z us) same h) (subst (λ (z : List StopBar). Each AtOf z vs) same g)
  ]

one_splits : (log : Log) (c : Settings) (k : ℕ) (before : List Row) (us vs : List AtBar) → IsSound c → AreAtBars log c before k us → AreAtBars log c before k vs → us ≡ vs
one_splits log c k before us vs sound h g = one_bars log c k before c.approaches (λ i d a b lt at is. place_there c i d a b sound lt at is) us vs h g

-- ---- tables

-- equal tables have the same part at each number that has a place
one_part : {A : Type 0} (has : ℕ → Bool) (n p : ℕ) (f g : ℕ → A) → table has n f ≡ table has n g → has p ≡ true → p < n → f p ≡ g p
one_part has n p f g same there lt =
    let at : Some (f p) ≡ Some (g p) = sym (table_at has n p f there lt) ∙ (ap (λ ps. get_or ps p None) same ∙ table_at has n p g there lt) in
    cc

-- ---- detectors

-- where the one store's states are all of colour Fault, so are the other's, whose states are the same but for old entries
faults_follow : (c : Settings) (s t : Store) (k i : ℕ) → ((u : State) → LeadsTo c t k i u → LeadsTo c s k i u) → LeadsToFault (log_of c.specs s) i (first_tenth k) → LeadsToFault (log_of c.specs t) i (first_tenth k)
faults_follow c s t k i same all v reached =
    let limit : ℤ = pos (first_tenth k) -ℤ pos 36001 in
    let old : (u : State) → LeadsTo c s k i u → u.colour ≡ fault = λ u h. elim h [
      | inl (here, late) ↦ all u here
      | inr (at, (e, there, early)) ↦ all (state u.colour e) there
    ] in
    elim (int_cases v.entry limit) [
      | inl (_, early) ↦ old (state v.colour limit) (same (state v.colour limit) (inr (refl, (v.entry, reached, early))))
      | inr (_, late) ↦ old v (same v (inl (reached, late)))
    ]

-- at a point that is in the window, the known rows are those before it and those from it on
faulty_at : (c : Settings) (s : Store) (k d i : ℕ) → IsSound c → IsStore s → k ≤ length s.hours → spec_place c.specs (detector d) ≡ Some i → (faulty (is_known s) (first_tenth k) (earlier_rows s k) d ≡ true) ↔ LeadsToFault (log_of c.specs s) i (first_tenth k)
faulty_at c s k d i sound is le at =
    let rest = rows_after s k is le in
    faulty_by_states c s d i (first_tenth k) (earlier_rows s k) rest.rows sound is at rest.parts (rows_of_order 0 (point k) (earlier_rows s k) (earlier_ordered s k is le)) (rows_of_order (point k) (point (length s.hours)) rest.rows rest.order)

one_flag : (c : Settings) (s t : Store) (k : ℕ) → IsSound c → IsStore s → IsStore t → k ≤ length s.hours → k ≤ length t.hours → IsSameCarry c s t k → (d : ℕ) → has_detector c d ≡ true → flag_of (is_known s) (first_tenth k) (earlier_rows s k) d ≡ flag_of (is_known t) (first_tenth k) (earlier_rows t k) d
one_flag c s t k sound is is_new le le_new same d has =
    let tracked = (and_parts (nat_lt d 129) (is_tracked_as c Detector d) has).1 in
    let (i, at) = some_there (spec_place c.specs (detector d)) (sound.tracked (detector d) ∙ tracked) in
    let lt = (place_channel c.specs d i at).0 in
    let x = faulty_at c s k d i sound is le at in
    let y = faulty_at c t k d i sound is_new le_new at in
    let one = same_both (faulty (is_known s) (first_tenth k) (earlier_rows s k) d) (faulty (is_known t) (first_tenth k) (earlier_rows t k) d)
    (λ f. y.1 (faults_follow c s t k i (λ u. (same.states i u lt).1) (x.0 f)))
    (λ f. x.1 (faults_follow c t s k i (λ u. (same.states i u lt).0) (y.0 f))) in
    ap (λ (b : Bool). let flag : Flag = record { fault = b } in flag) one

-- ---- all together

pub carry_same : CarryIsSame
carry_same c s t k carry x y = record {
  states = λ i u lt. (λ h. (y.pasts.states i lt u).0 ((x.pasts.states i lt u).1 h), λ h. (x.pasts.states i lt u).0 ((y.pasts.states i lt u).1 h));
  known = sym x.known ∙ y.known;
  phases = λ p has. one_part (has_phase c.phases) (room c.phases) p (part_of (is_known s) (first_tenth k) (earlier_rows s k)) (part_of (is_known t) (first_tenth k) (earlier_rows t k)) (sym x.cuts.parts_are ∙ y.cuts.parts_are) has (has_room c.phases p has);
  closing = sym x.closing ∙ y.closing;
  bars = (carry.splits, x.splits, y.splits);
  peds = λ p has. one_part (has_number c.peds) (places c.peds) p (ped_of (is_known s) (first_tenth k) (earlier_rows s k)) (ped_of (is_known t) (first_tenth k) (earlier_rows t k)) (sym x.others.peds_are ∙ y.others.peds_are) has (number_low c.peds p has);
  preempts = λ p has. one_part (has_number c.preempts) (places c.preempts) p (preempt_of (is_known s) (first_tenth k) (earlier_rows s k)) (preempt_of (is_known t) (first_tenth k) (earlier_rows t k)) (sym x.others.preempts_are ∙ y.others.preempts_are) has (number_low c.preempts p has);
  approaches = sym x.arrivals.crossings_are ∙ y.arrivals.crossings_are;
}

pub carries_one : CarriesAreOne
carries_one c s t k a b sound is is_new le le_new x y same =
    let (ats, p, q) = same.bars in
    let phases = table_same (has_phase c.phases) (room c.phases) (part_of (is_known s) (first_tenth k) (earlier_rows s k)) (part_of (is_known t) (first_tenth k) (earlier_rows t k)) same.phases in
    let peds = table_same (has_number c.peds) (places c.peds) (ped_of (is_known s) (first_tenth k) (earlier_rows s k)) (ped_of (is_known t) (first_tenth k) (earlier_rows t k)) same.peds in
    let preempts = table_same (has_number c.preempts) (places c.preempts) (preempt_of (is_known s) (first_tenth k) (earlier_rows s k)) (preempt_of (is_known t) (first_tenth k) (earlier_rows t k)) same.preempts in
    let flags = table_same (has_detector c) 129 (flag_of (is_known s) (first_tenth k) (earlier_rows s k)) (flag_of (is_known t) (first_tenth k) (earlier_rows t k)) (one_flag c s t k sound is is_new le le_new same) in
    record {
      pasts = one_pasts c s t k a.pasts b.pasts x.pasts y.pasts same;
      known = x.known ∙ (same.known ∙ sym y.known);
      cuts = x.cuts.parts_are ∙ (phases ∙ sym y.cuts.parts_are);
      closing = x.closing ∙ (same.closing ∙ sym y.closing);
      splits = one_splits (log_of c.specs s) c k (earlier_rows s k) a.splits ats sound x.splits p ∙ one_splits (log_of c.specs t) c k (earlier_rows t k) ats b.splits sound q y.splits;
      others = one_crossing a.others b.others (x.others.peds_are ∙ (peds ∙ sym y.others.peds_are)) (x.others.preempts_are ∙ (preempts ∙ sym y.others.preempts_are));
      arrivals = one_open a.arrivals b.arrivals (x.arrivals.crossings_are ∙ (same.approaches ∙ sym y.arrivals.crossings_are)) (x.arrivals.flags_are ∙ (flags ∙ sym y.arrivals.flags_are));
    }

-- ---- values

pub one_carried : (a b : Carried) → a.pasts ≡ b.pasts → a.known ≡ b.known → a.cuts ≡ b.cuts → a.closing ≡ b.closing → a.splits ≡ b.splits → a.others ≡ b.others → a.arrivals ≡ b.arrivals → a ≡ b
one_carried a b p k u w s o r =
    let one : Carried = record { pasts = a.pasts; known = a.known; cuts = a.cuts; closing = a.closing; splits = a.splits; others = a.others; arrivals = a.arrivals } in
    let other : Carried = record { pasts = b.pasts; known = b.known; cuts = b.cuts; closing = b.closing; splits = b.splits; others = b.others; arrivals = b.arrivals } in
    let same : one ≡ other = rw (p, k, u, w, s, o, r) refl in
    same

says_itself : (a : Carried) → SaySame a a
says_itself a = record {
  pasts = (refl, λ i lt. (refl, λ u. (λ h. h, λ h. h)));
  known = refl;
  cuts = refl;
  closing = refl;
  splits = refl;
  others = refl;
  arrivals = refl;
}

pub says_refl : (a b : Carried) → a ≡ b → SaySame a b
says_refl a b e = subst (λ (x : Carried). SaySame a x) e (says_itself a)

pub says_back : (a b : Carried) → SaySame a b → SaySame b a
says_back a b h = record {
  pasts = (sym h.pasts.0, λ i lt. let one = h.pasts.1 i (subst (λ (n : ℕ). i < n) (sym h.pasts.0) lt) in (sym one.0, λ u. ((one.1 u).1, (one.1 u).0)));
  known = sym h.known;
  cuts = sym h.cuts;
  closing = sym h.closing;
  splits = sym h.splits;
  others = sym h.others;
  arrivals = sym h.arrivals;
}
