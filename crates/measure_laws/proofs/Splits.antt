-- The verdicts of services over all hours.
use Rattle.std.proofs.Common.{◌≡◌, ◌∙◌, refl, ap, ap₂, sym, subst, inl, inr, ℕ, suc, ◌+◌, ◌-◌, ◌<◌, ◌≤◌, Bool, true, false, cond, ◌&&◌, nat_le, nat_lt, Option, Some, None, List, [], ◌∷◌, ◌++◌, length, append_assoc, arith}
use Rattle.std.specs.Prelude.{All}
use Rattle.std.proofs.lemmas.Bool.{cases_lt, le-leb, le-ltb, lt-leb, lt-ltb, and_left}
use Rattle.std.proofs.lemmas.List.{append-nil}
use Rattle.std.proofs.lemmas.List.Elements.{All-weaker, filter-append}
use Rattle.sig_base.specs.declared.values.PhaseItem.{PhaseItem}
use Rattle.sig_base.specs.declared.values.Row.{Row}
use Rattle.board.specs.Logs.{end_tenth, first_tenth}
use Rattle.hour_store.specs.Store.{IsStore, Store, is_known, known_rows}
use Rattle.hour_sweep.specs.Hours.{AreOrdered, point}
use Rattle.hour_sweep.specs.Passes.{back, front}
use Rattle.hour_sweep.proofs.Orders.{ordered-append, split_rows}
use Rattle.service_cut.specs.declared.items.Service.{Service}
use Rattle.service_cut.specs.Cut.{services_from}
use Rattle.signal_log.specs.Log.{log_of, window_end}
use Rattle.ring_config.specs.Settings.{Settings}
use Rattle.ring_config.specs.declared.items.Approach.{Approach}
use Rattle.stop_bar.specs.Windows.{due, left}
use Rattle.stop_bar.specs.Going.{of_phase}
use Rattle.stop_bar.specs.declared.bars.StopBar.{StopBar}
use Rattle.stop_bar.specs.All.{IsPlaceOf, bar_with}
use Rattle.stop_bar.specs.Bars.{ending, services_upto, without_ends}
use Rattle.stop_bar.specs.Lists.{Each}
use Rattle.stop_bar.proofs.Listing.{ends_between, services_split}
use Rattle.split_measures.specs.declared.failures.SplitSum.{SplitSum}
use Rattle.split_measures.specs.declared.verdict.SplitVerdict.{SplitVerdict}
use Rattle.split_measures.specs.Failures.{both_sums, split_sum_of}
use Rattle.split_measures.specs.Hours.{IsApproachSum, IsSplitSum, open_in, opens_of}
use Rattle.split_measures.specs.Verdicts.{IsVerdict}
use Rattle.split_measures.proofs.Failing.{sums_append}
use Rattle.arrival_measures.proofs.Filters.{filter_none, filter_same}
use Rattle.hour_work.specs.Numbers.{Numbers, total_of}
use Rattle.hour_work.specs.Rows.{earlier_rows, own_rows}
use Rattle.hour_work.proofs.WholeLog.{all_rows, earlier_ordered, more_rows, own_ordered}
use Rattle.measure_laws.specs.Totals.{IsApproachTotal, SplitTotals}
use Rattle.measure_laws.proofs.Totals.{all_total, each_as, filter_all}

-- ---- sums of two lists of verdicts

each_join : {A B : Type 0} (R : A → B → Type 0) (xs us : List A) (ys vs : List B) → Each R xs ys → Each R us vs → Each R (xs ++ us) (ys ++ vs)
each_join R [] us [] vs h k = k
each_join R [] us (y ∷ ys) vs h k = absurd h
each_join R (x ∷ xs) us [] vs h k = absurd h
each_join R (x ∷ xs) us (y ∷ ys) vs h k = (h.0, each_join R xs us ys vs h.1 k)

-- ---- services by the end of their red windows

abbrev EndFrom : ℕ → ℕ → List Service → Type 0
EndFrom a b ss = All (λ (s : Service). (a ≤ s.r) × (s.r < b)) ss

-- those that end 50 tenths before a or earlier are over by then
due_early : (k t a : ℕ) (ss : List Service) → t + 49 ≤ a → EndFrom k t ss → due a ss ≡ ss
due_early k t a ss le h = filter_all (λ (s : Service). nat_le (s.r + 50) a) ss (All-weaker (λ (s : Service). (k ≤ s.r) × (s.r < t)) (λ s. nat_le (s.r + 50) a ≡ true) (λ s w. let lt = w.1 in le-leb (s.r + 50) a (omega arith)) ss h)

-- and those that end later aren't
due_late : (t b a : ℕ) (ss : List Service) → a < t + 50 → EndFrom t b ss → due a ss ≡ []
due_late t b a ss lt h = filter_none (λ (s : Service). nat_le (s.r + 50) a) ss (All-weaker (λ (s : Service). (t ≤ s.r) × (s.r < b)) (λ s. nat_le (s.r + 50) a ≡ false) (λ s w. let le = w.0 in lt-leb (s.r + 50) a (omega arith)) ss h)

ending_early : (k t a b : ℕ) (ss : List Service) → t + 49 ≤ a → EndFrom k t ss → ending a b ss ≡ []
ending_early k t a b ss le h = filter_none (λ (s : Service). nat_lt a (s.r + 50) && nat_le (s.r + 50) b) ss
    (All-weaker (λ (s : Service). (k ≤ s.r) × (s.r < t)) (λ s. (nat_lt a (s.r + 50) && nat_le (s.r + 50) b) ≡ false) (λ s w. let lt = w.1 in and_left (nat_lt a (s.r + 50)) (nat_le (s.r + 50) b) (le-ltb a (s.r + 50) (omega arith))) ss h)

ending_late : (t c a b : ℕ) (ss : List Service) → a < t + 50 → EndFrom t c ss → ending a b ss ≡ due b ss
ending_late t c a b ss lt h = filter_same (λ (s : Service). nat_lt a (s.r + 50) && nat_le (s.r + 50) b) (λ s. nat_le (s.r + 50) b) ss
    (All-weaker (λ (s : Service). (t ≤ s.r) × (s.r < c)) (λ s. (nat_lt a (s.r + 50) && nat_le (s.r + 50) b) ≡ nat_le (s.r + 50) b) (λ s w. let le = w.0 in ap (λ v. v && nat_le (s.r + 50) b) (lt-ltb a (s.r + 50) (omega arith))) ss h)

-- the services of a phase
module _ (known : ℕ → Bool) (phases : List PhaseItem) (p : ℕ) where
  abbrev upto : List Row → List Service
  upto rows = services_upto known phases p rows

  -- none is over before tenth 50
  due_first : (a b : ℕ) (rows : List Row) → a < 50 → AreOrdered 0 b rows → due a (upto rows) ++ ending a b (upto rows) ≡ due b (upto rows)
  due_first a b rows lt order =
      let all = ends_between known phases p 0 b [] rows order in
      ap₂ (λ xs ys. xs ++ ys) (due_late 0 b a (upto rows) (omega arith) all) (ending_late 0 b a b (upto rows) (omega arith) all)

  due_later : (a b : ℕ) (rows : List Row) → 50 ≤ a → a ≤ b → AreOrdered 0 b rows → due a (upto rows) ++ ending a b (upto rows) ≡ due b (upto rows)
  due_later a b rows some le order =
      let t = a - 49 in
      let cut = split_rows 0 t b rows (omega arith) (omega arith) order in
      let f = front t rows in
      let g = back t rows in
      let us = upto f in
      let vs = without_ends (of_phase p (services_from known phases f g)) in
      let early = ends_between known phases p 0 t [] f cut.first in
      let late = ends_between known phases p t b f g cut.rest in
      let parts : upto rows ≡ us ++ vs = ap (λ rs. upto rs) (sym cut.joined) ∙ services_split known phases p t b f g cut.first cut.rest in
      let over : due a (us ++ vs) ≡ us = filter-append _ us vs ∙ (ap₂ (λ xs ys. xs ++ ys) (due_early 0 t a us (omega arith) early) (due_late t b a vs (omega arith) late) ∙ append-nil us) in
      let then : ending a b (us ++ vs) ≡ due b vs = filter-append _ us vs ∙ ap₂ (λ xs ys. xs ++ ys) (ending_early 0 t a b us (omega arith) early) (ending_late t b a b vs (omega arith) late) in
      let both : due b (us ++ vs) ≡ us ++ due b vs = filter-append _ us vs ∙ ap (λ xs. xs ++ due b vs) (due_early 0 t b us (omega arith) early) in
      subst (λ (ss : List Service). due a ss ++ ending a b ss ≡ due b ss) (sym parts) (ap₂ (λ xs ys. xs ++ ys) over then ∙ sym both)

  -- those that are over by a tenth, and those that are over after it by a later one
  due_ending : (a b : ℕ) (rows : List Row) → a ≤ b → AreOrdered 0 b rows → due a (upto rows) ++ ending a b (upto rows) ≡ due b (upto rows)
  due_ending a b rows le order = elim (cases_lt a 50) [ inl lt ↦ due_first a b rows lt order | inr ge ↦ due_later a b rows ge le order ]

  -- the rows of an hour end none that is over by its first tenth
  due_before : (a b : ℕ) (before rows : List Row) → AreOrdered 0 a before → AreOrdered a b rows → due a (upto (before ++ rows)) ≡ due a (upto before)
  due_before a b before rows first order =
      let us = upto before in
      let vs = without_ends (of_phase p (services_from known phases before rows)) in
      ap (λ ss. due a ss) (services_split known phases p a b before rows first order)
      ∙ (filter-append _ us vs
      ∙ (ap (λ ss. due a us ++ ss) (due_late a b a vs (omega arith) (ends_between known phases p a b before rows order))
      ∙ append-nil (due a us)))

-- ---- a stop bar

-- of the first n of so many hours, at their end: as `open_in` has it of one
abbrev open_upto : ℕ → ℕ → List Service → List Service
open_upto hours n ss = cond (nat_le hours n) (left (point n) ss) []

module _ (c : Settings) (s : Store) where
  abbrev of_bar : StopBar → List Row → List Service
  of_bar b rows = services_upto (is_known s) c.phases b.phase rows

  -- the sum over the first n hours
  record IsSumUpto (n i : ℕ) (b : StopBar) (sum : SplitSum) : Type 0 where
    verdicts : List SplitVerdict
    each : Each (λ x v. IsVerdict (log_of c.specs s) i b.high x v) (due (point n) (of_bar b (earlier_rows s n))) verdicts
    sums : sum ≡ split_sum_of (verdicts ++ opens_of (open_upto c.window.hours n (of_bar b (earlier_rows s n))))

  abbrev IsTotalUpto : ℕ → SplitSum → Option StopBar → Type 0
  IsTotalUpto n sum None = sum ≡ split_sum_of []
  IsTotalUpto n sum (Some b) = (i : ℕ) × IsPlaceOf c b i × IsSumUpto n i b sum

  abbrev IsPartOf : ℕ → SplitSum → Option StopBar → Type 0
  IsPartOf n sum o = IsApproachSum (log_of c.specs s) c n (earlier_rows s n ++ own_rows s n) sum o

  one_place : (b : StopBar) (i j : ℕ) → IsPlaceOf c b i → IsPlaceOf c b j → j ≡ i
  one_place b i j e f = let both : Some j ≡ Some i = sym f ∙ e in cc

  module _ (n : ℕ) (store : IsStore s) (within : n < length s.hours) where
    abbrev whole : List Row
    whole = earlier_rows s n ++ own_rows s n

    next : earlier_rows s (suc n) ≡ whole
    next = more_rows s n within

    end_is : end_tenth n ≡ point (suc n)
    end_is = omega arith

    whole_ordered : AreOrdered 0 (point (n + 1)) whole
    whole_ordered = ordered-append 0 (point n) (point (n + 1)) (earlier_rows s n) (own_rows s n) (earlier_ordered s n store (omega arith)) (own_ordered s n store)

    -- what the end of the hour leaves open, in both forms
    open_same : (ss : List Service) → open_in c.window.hours n ss ≡ open_upto c.window.hours (suc n) ss
    open_same ss = let e : n + 1 ≡ suc n = omega arith in ap₂ (λ (k t : ℕ). cond (nat_le c.window.hours k) (left t ss) []) e end_is

    over_more : (b : StopBar) → due (point n) (of_bar b (earlier_rows s n)) ++ ending (first_tenth n) (end_tenth n) (of_bar b whole) ≡ due (point (suc n)) (of_bar b (earlier_rows s (suc n)))
    over_more b =
        let before = due_before (is_known s) c.phases b.phase (point n) (point (n + 1)) (earlier_rows s n) (own_rows s n) (earlier_ordered s n store (omega arith)) (own_ordered s n store) in
        let end : point (n + 1) ≡ end_tenth n = omega arith in
        let order = subst (λ (t : ℕ). AreOrdered 0 t whole) end whole_ordered in
        ap (λ xs. xs ++ ending (first_tenth n) (end_tenth n) (of_bar b whole)) (sym before)
        ∙ (due_ending (is_known s) c.phases b.phase (point n) (end_tenth n) whole (omega arith) order
        ∙ ap₂ (λ (t : ℕ) (rs : List Row). due t (of_bar b rs)) end_is (sym next))

    -- an hour's sum with the verdicts of the services that were over before it
    with_hour : (i : ℕ) (b : StopBar) (us : List SplitVerdict) (p sum : SplitSum) → Each (λ x v. IsVerdict (log_of c.specs s) i b.high x v) (due (point n) (of_bar b (earlier_rows s n))) us → IsSplitSum (log_of c.specs s) c i b n whole p → sum ≡ both_sums (split_sum_of us) p → IsSumUpto (suc n) i b sum
    with_hour i b us p sum over is e =
        let R : Service → SplitVerdict → Type 0 = λ x v. IsVerdict (log_of c.specs s) i b.high x v in
        let here = opens_of (open_in c.window.hours n (of_bar b whole)) in
        let later = opens_of (open_upto c.window.hours (suc n) (of_bar b (earlier_rows s (suc n)))) in
        let same : here ≡ later = ap (λ ss. opens_of ss) (open_same (of_bar b whole) ∙ ap (λ rs. open_upto c.window.hours (suc n) (of_bar b rs)) (sym next)) in
        let vs = is.verdicts in
        record {
          verdicts = us ++ vs;
          each = subst (λ ss. Each R ss (us ++ vs)) (over_more b) (each_join R (due (point n) (of_bar b (earlier_rows s n))) (ending (first_tenth n) (end_tenth n) (of_bar b whole)) us vs over is.each);
          sums = e ∙ (ap (λ x. both_sums (split_sum_of us) x) is.sums ∙ (sym (sums_append us (vs ++ here)) ∙ (ap (λ xs. split_sum_of xs) (sym (append_assoc us vs here)) ∙ ap (λ xs. split_sum_of ((us ++ vs) ++ xs)) same)));
        }

  first : (store : IsStore s) (o : Option StopBar) (p : SplitSum) → IsPartOf 0 p o → IsTotalUpto 1 p o
  first store None p is = is
  first store (Some b) p (i, at, is) =
      let xs = is.verdicts ++ opens_of (open_in c.window.hours 0 (of_bar b (own_rows s 0))) in
      let some = store.some in
      let alone : p ≡ both_sums (split_sum_of []) p = is.sums ∙ (sums_append [] xs ∙ ap (λ x. both_sums (split_sum_of []) x) (sym is.sums)) in
      (i, at, with_hour 0 store (omega arith) i b [] p p tt is alone)

  -- before the last hour none is left open
  none_open : (n i : ℕ) (b : StopBar) (t : SplitSum) → n < c.window.hours → (so : IsSumUpto n i b t) → t ≡ split_sum_of so.verdicts
  none_open n i b t lt so =
      let ss = of_bar b (earlier_rows s n) in
      let none : open_upto c.window.hours n ss ≡ [] = ap (λ v. cond v (left (point n) ss) []) (lt-leb c.window.hours n lt) in
      so.sums ∙ (ap (λ zs. split_sum_of (so.verdicts ++ opens_of zs)) none ∙ ap (λ zs. split_sum_of zs) (append-nil so.verdicts))

  more : (n : ℕ) → IsStore s → length s.hours ≡ c.window.hours → n < length s.hours → (o : Option StopBar) (t p : SplitSum) → IsTotalUpto n t o → IsPartOf n p o → IsTotalUpto (suc n) (both_sums t p) o
  more n store size within None t p so is = ap₂ (λ x y. both_sums x y) so is ∙ sym (sums_append [] [])
  more n store size within (Some b) t p (i, at, so) (j, there, is) =
      let one = subst (λ (k : ℕ). IsSplitSum (log_of c.specs s) c k b n (whole n store within) p) (one_place b i j at there) is in
      let e = none_open n i b t (omega arith) so in
      (i, at, with_hour n store within i b so.verdicts p (both_sums t p) so.each one (ap (λ x. both_sums x p) e))

  -- at the window's end
  at_end : length s.hours ≡ c.window.hours → (o : Option StopBar) (t : SplitSum) → IsTotalUpto (length s.hours) t o → IsApproachTotal (log_of c.specs s) c t o
  at_end size None t is = is
  at_end size (Some b) t (i, at, is) =
      let end = window_end (log_of c.specs s) in
      let rows = all_rows s in
      let open_all : open_upto c.window.hours (length s.hours) (of_bar b (earlier_rows s (length s.hours))) ≡ left end (of_bar b (known_rows s)) =
      ap (λ v. cond v (left end (of_bar b (earlier_rows s (length s.hours)))) []) (le-leb c.window.hours (length s.hours) (omega arith))
      ∙ ap (λ rs. left end (of_bar b rs)) rows in (
        i,
        at,
        record {
          verdicts = is.verdicts;
          each = subst (λ rs. Each (λ x v. IsVerdict (log_of c.specs s) i b.high x v) (due end (of_bar b rs)) is.verdicts) rows is.each;
          sums = is.sums ∙ ap (λ ss. split_sum_of (is.verdicts ++ opens_of ss)) open_all;
        },
      )

pub split_totals : SplitTotals
split_totals c s all store size is =
    let bar = λ (a : Approach). bar_with a a.stop_bar in
    let Part : ℕ → Approach → SplitSum → Type 0 = λ n a p. IsPartOf c s n p (bar a) in
    let Total : ℕ → Approach → SplitSum → Type 0 = λ n a t. IsTotalUpto c s n t (bar a) in
    let same = is.size in
    let some = store.some in
    let whole = all_total both_sums (λ (n : Numbers). n.failures) refl (λ x y. refl) Part Total c.approaches all
    (λ n d lt. (is.each n d (omega arith)).measures.verdicts)
    (λ a p one. first c s store (bar a) p one)
    (λ n lt a t p so one. more c s n store size (omega arith) (bar a) t p so one)
    (omega arith) in
    let last = subst (λ (n : ℕ). Each (Total n) c.approaches (total_of all).failures) same whole in
    each_as (Total (length s.hours)) (λ a t. IsApproachTotal (log_of c.specs s) c t (bar a)) c.approaches (total_of all).failures (λ a t so. at_end c s size (bar a) t so) last
