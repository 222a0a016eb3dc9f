-- What the rows count of a whole cycle is what all histories tell.
use Rattle.std.proofs.Common.{◌≡◌, ◌∙◌, ◌↔◌, refl, ap, sym, subst, inl, inr, ℕ, zero, suc, ◌+◌, ◌-◌, ◌<◌, ◌≤◌, Bool, true, false, cond, ◌&&◌, nat_le, nat_lt, Some, List, [], ◌∷◌, ◌++◌, length, get_or, arith}
use Rattle.std.specs.List.{count_by, filter}
use Rattle.std.proofs.lemmas.Bool.{and_parts, cases_Bool, leb-true, ltb-true}
use Rattle.std.proofs.lemmas.List.Sums.{sum_by-cons}
use Rattle.sig_base.specs.declared.values.Row.{Row}
use Rattle.sig_base.specs.Numbers.{has_phase}
use Rattle.sig_base.proofs.Each.{Each}
use Rattle.board.specs.Channels.{AreSpecs}
use Rattle.hour_store.specs.Store.{IsStore, Store, is_known}
use Rattle.hour_sweep.specs.Sums.{one_if}
use Rattle.hour_sweep.specs.Hours.{AreOrdered, point}
use Rattle.hour_sweep.proofs.Orders.{ordered-append}
use Rattle.signal_log.specs.Log.{HasHistory, log_of}
use Rattle.ring_config.specs.Settings.{Settings, spec_place}
use Rattle.detector_state.specs.States.{IsCount}
use Rattle.service_cut.specs.declared.items.Cycle.{Cycle}
use Rattle.service_cut.proofs.Fitting.{cycles_fit}
use Rattle.arrival_measures.specs.Arrivals.{is_on, rows_within}
use Rattle.arrival_measures.specs.Green.{shows_green, tenths_with}
use Rattle.arrival_measures.specs.Judged.{CountOf, phase_channel}
use Rattle.hour_work.specs.Rows.{earlier_rows, own_rows}
use Rattle.hour_work.specs.Measures.{cycles_in}
use Rattle.hour_work.proofs.ArrivalLaws.{each_kept}
use Rattle.hour_work.proofs.GreenLaws.{cycle_shows, place_within}
use Rattle.hour_work.proofs.OneLaws.{end_state}
use Rattle.hour_work.proofs.WholeLog.{earlier_ordered, own_ordered}
use Rattle.measure_laws.specs.Green.{AreGreenNumbers, GreenNumbers, IsGreenAt}
use Rattle.measure_laws.proofs.OpenGreen.{told_shows}

-- ---- counting by a test that says the same

tenths_count : (P : ℕ → Type 0) (test : ℕ → Bool) (a n : ℕ) → ((t : ℕ) → a ≤ t → t < a + n → (test t ≡ true) ↔ P t) → IsCount P a n (tenths_with test a n)
unfolding IsCount tenths_with
tenths_count P test a zero h = refl
tenths_count P test a (suc n) h =
    let rest = tenths_with test (a + 1) n in
    let more = tenths_count P test (a + 1) n (λ t lo hi. h t (omega arith) (omega arith)) in
    let here = h a (omega arith) (omega arith) in
    elim (cases_Bool (test a)) [
      | inl e ↦
          let one : one_if (test a) + rest ≡ suc rest = rw e (omega arith) in
          inl (here.0 e, (rest, one, more))
      | inr e ↦
          let none : rest ≡ one_if (test a) + rest = rw e (omega arith) in
          inr (λ p. (let t : test a ≡ true = here.1 p in let bad : true ≡ false = sym t ∙ e in cc), subst (λ (k : ℕ). IsCount P (a + 1) n k) none more)
    ]

rows_count : (P : Row → Type 0) (on test : Row → Bool) (xs : List Row) → Each (λ x. (test x ≡ true) ↔ P x) xs → CountOf P (filter on xs) (count_by (λ x. on x && test x) xs)
unfolding CountOf
rows_count P on test [] h = refl
rows_count P on test (x ∷ xs) h =
    let both : Row → Bool = λ y. on y && test y in
    let rest = count_by both xs in
    let more = rows_count P on test xs h.1 in
    let all : count_by both (x ∷ xs) ≡ one_if (on x && test x) + rest = sum_by-cons (λ (y : Row). cond (both y) 1 0) x xs in
    let none : one_if (on x && test x) ≡ 0 → rest ≡ count_by both (x ∷ xs) = λ e. omega (arith, all, e) in
    elim (cases_Bool (on x)) [
      | inl o ↦ elim (cases_Bool (test x)) [
        | inl t ↦
            let is : one_if (on x && test x) ≡ 1 = rw (o, t) refl in
            let one : count_by both (x ∷ xs) ≡ suc rest = omega (arith, all, is) in
            subst (λ (zs : List Row). CountOf P zs (count_by both (x ∷ xs))) (sym (ap (λ b. cond b (x ∷ filter on xs) (filter on xs)) o)) (inl (h.0.0 t, (rest, one, more)))
        | inr f ↦
            let is : one_if (on x && test x) ≡ 0 = rw (o, f) refl in
            subst (λ (zs : List Row). CountOf P zs (count_by both (x ∷ xs))) (sym (ap (λ b. cond b (x ∷ filter on xs) (filter on xs)) o)) (inr (λ p. (let t : test x ≡ true = h.0.1 p in let bad : true ≡ false = sym t ∙ f in cc), subst (λ (k : ℕ). CountOf P (filter on xs) k) (none is) more))
      ]
      | inr o ↦
          let is : one_if (on x && test x) ≡ 0 = rw o refl in
          subst (λ (zs : List Row). CountOf P zs (count_by both (x ∷ xs))) (sym (ap (λ b. cond b (x ∷ filter on xs) (filter on xs)) o)) (subst (λ (k : ℕ). CountOf P (filter on xs) k) (none is) more)
    ]

within_each : (Q : Row → Type 0) (a b : ℕ) (xs : List Row) → ((x : Row) → a ≤ x.at → x.at < b → Q x) → Each Q (rows_within a b xs)
within_each Q a b [] h = tt
within_each Q a b (x ∷ xs) h =
    each_kept Q (nat_le a x.at && nat_lt x.at b) x (rows_within a b xs)
    (λ e. let both = and_parts (nat_le a x.at) (nat_lt x.at b) e in h x (leb-true a x.at both.0) (ltb-true x.at b both.1))
    (within_each Q a b xs h)

-- ---- a cycle

cycle_order : (c : Settings) (s : Store) (hour n : ℕ) (d : Cycle) → IsStore s → hour < length s.hours → n < length (cycles_in c s hour) → (get_or (cycles_in c s hour) n d).from ≤ (get_or (cycles_in c s hour) n d).to
cycle_order c s hour n d store lt some =
    let before = earlier_rows s hour in
    let own = own_rows s hour in
    let order : AreOrdered 0 (point (hour + 1)) (before ++ own) = ordered-append 0 (point hour) (point (hour + 1)) before own (earlier_ordered s hour store (omega arith)) (own_ordered s hour store) in
    (cycles_fit (is_known s) (has_phase c.phases) 0 (point (hour + 1)) before own order n d some).in_order

-- by these rows a cycle is green at the ends of its tenths exactly where it is green in all histories
pub record ShowsGreen (c : Settings) (s : Store) (rows : List Row) (x : Cycle) : Type 0 where
  pub order : x.from ≤ x.to
  pub says : (i t : ℕ) → spec_place c.specs (phase_channel x.phase) ≡ Some i → x.from ≤ t → t < x.to → (shows_green x.phase x.from rows t ≡ true) ↔ IsGreenAt c s i t

pub hour_shows : (c : Settings) (s : Store) (hour n : ℕ) (d : Cycle) → AreSpecs c.specs → IsStore s → HasHistory (log_of c.specs s) → hour < length s.hours → n < length (cycles_in c s hour) → ShowsGreen c s (earlier_rows s hour ++ own_rows s hour) (get_or (cycles_in c s hour) n d)
hour_shows c s hour n d specs store has lt some =
    let x = get_or (cycles_in c s hour) n d in
    let (h, agrees) = has in
    record {
      order = cycle_order c s hour n d store lt some;
      says = λ i t at lo hi.
          let shown = cycle_shows c s hour n i t d specs store lt some at lo hi in
          let (w, ends) = end_state (log_of c.specs s) h t i agrees (place_within c x.phase i at) in
          (λ shows v may. shown v may ∙ shows, λ all. sym (shown w (h, agrees, ends)) ∙ all w (h, agrees, ends));
    }

-- other rows that tell the same
pub shows_same : (c : Settings) (s : Store) (rows others : List Row) (x : Cycle) → ((t : ℕ) → t < x.to → shows_green x.phase x.from others t ≡ shows_green x.phase x.from rows t) → ShowsGreen c s rows x → ShowsGreen c s others x
shows_same c s rows others x same h = record {
  order = h.order;
  says = λ i t at lo hi.
      let e = same t hi in
      let both = h.says i t at lo hi in
      (λ shows. both.0 (sym e ∙ shows), λ all. e ∙ both.1 all);
}

pub counts_green : (c : Settings) (s : Store) (rows : List Row) (i : ℕ) (x : Cycle) → spec_place c.specs (phase_channel x.phase) ≡ Some i → ShowsGreen c s rows x → AreGreenNumbers c s i rows x
counts_green c s rows i x at h =
    let p = x.phase in
    let a = x.from in
    let b = x.to in
    let order = h.order in
    record {
      tenths = (b - a, omega arith, tenths_count (IsGreenAt c s i) (shows_green p a rows) a (b - a) (λ t lo hi. h.says i t at lo (omega arith)));
      arrivals = λ e. rows_count (λ (y : Row). IsGreenAt c s i y.at) (is_on e) (λ y. shows_green p a rows y.at) (rows_within a b rows) (within_each (λ (y : Row). (shows_green p a rows y.at ≡ true) ↔ IsGreenAt c s i y.at) a b rows (λ y lo hi. h.says i y.at at lo hi));
    }

pub green_numbers : GreenNumbers
green_numbers c s hour n i d rows specs store has lt some at are =
    let x = get_or (cycles_in c s hour) n d in
    let base = earlier_rows s hour ++ own_rows s hour in
    counts_green c s rows i x at (shows_same c s base rows x (λ t hi. told_shows (is_known s) x.phase x.from t base rows are) (hour_shows c s hour n d specs store has lt some))
