-- The judged arrivals and actuations over all hours.
use Rattle.std.proofs.Common.{◌≡◌, ◌∙◌, refl, ap, ap₂, sym, subst, inl, inr, ℕ, suc, ◌+◌, ◌/◌, ◌^◌, ◌<◌, ◌≤◌, Bool, true, false, not, cond, ◌&&◌, ◌||◌, nat_le, nat_lt, Option, Some, None, List, [], ◌∷◌, ◌++◌, length, get_or, length-append, arith}
use Rattle.std.specs.Prelude.{All}
use Rattle.std.specs.List.{filter}
use Rattle.std.proofs.lemmas.Bool.{and_left, and_parts, cases_Bool, cases_lt, eq-eqb, eqb-true, le-leb, le-ltb, lt-leb, lt-ltb, ltb-true, ne_eqb, or_cases, or_right}
use Rattle.std.proofs.lemmas.List.{append-nil, get_or_past}
use Rattle.std.proofs.lemmas.List.Elements.{All-weaker, filter-append, filter_passes}
use Rattle.sig_base.specs.declared.values.Row.{Row}
use Rattle.reach.specs.Runs.{State}
use Rattle.hour_store.specs.Store.{IsStore, Store, held_at, is_known}
use Rattle.hour_sweep.specs.Sums.{capped}
use Rattle.hour_sweep.proofs.Adding.{length-add, capped_small}
use Rattle.hour_sweep.specs.Hours.{AreOrdered, point}
use Rattle.hour_sweep.proofs.Orders.{ordered-append}
use Rattle.service_cut.proofs.YellowEnds.{from_first}
use Rattle.ring_config.specs.Settings.{Settings}
use Rattle.ring_config.specs.declared.items.Approach.{Approach}
use Rattle.ring_config.proofs.SpecLaws.{length_filter}
use Rattle.stop_bar.specs.Lists.{Each}
use Rattle.arrival_measures.specs.Arrivals.{is_on, ons_of}
use Rattle.arrival_measures.proofs.Counts.{and_true}
use Rattle.arrival_measures.specs.declared.sums.ArrivalSum.{ArrivalSum}
use Rattle.arrival_measures.specs.Faults.{arrivals_from, faults_from, is_arrival, is_fault_row, passing_from}
use Rattle.arrival_measures.specs.Judged.{AllPass, AreJudged, CountOf, NonePass, OnlySomePass, is_green, is_red}
use Rattle.arrival_measures.specs.Travel.{arrivals_at, from_tenth}
use Rattle.arrival_measures.specs.Steps.{due_of}
use Rattle.arrival_measures.specs.Hours.{AreActuations, AreArrivals, HasActuations, HasArrivals, HasJudged, added, counts_in, due_in, is_last, is_seen, no_arrivals}
use Rattle.arrival_measures.proofs.Counting.{count_low}
use Rattle.arrival_measures.proofs.Filters.{filter_none, filter_same}
use Rattle.arrival_measures.proofs.Travels.{arrivals_in, arrivals_more, at_ordered, early_late, in_ordered, passing-append}
use Rattle.hour_work.specs.Numbers.{Numbers, total_of}
use Rattle.hour_work.specs.Rows.{earlier_rows, own_rows}
use Rattle.hour_work.specs.Measures.{MayBeIn}
use Rattle.hour_work.proofs.WholeLog.{all_rows, earlier_ordered, more_rows, own_ordered}
use Rattle.measure_laws.specs.Sums.{AreCountable}
use Rattle.measure_laws.specs.Totals.{AreNumbersOf, AreTotalsOf, ArrivalTotals, HaveTotals}
use Rattle.measure_laws.proofs.Adding.{arrivals_few, passing_few}
use Rattle.measure_laws.proofs.Totals.{all_total, each_as, each_of_places, few_upto, filter_all}

-- ---- two parts of a list

filter_twice : {X : Type 0} (p q : X → Bool) (xs : List X) → filter q (filter p xs) ≡ filter (λ x. p x && q x) xs
filter_twice p q [] = refl
filter_twice p q (x ∷ xs) = elim (cases_Bool (p x)) [
  | inl t ↦ rw t (ap (λ zs. cond (q x) (x ∷ zs) zs) (filter_twice p q xs))
  | inr f ↦ rw f (filter_twice p q xs)
]

count_join : {X : Type 0} (P : X → Type 0) (xs ys : List X) (m n : ℕ) → CountOf P xs m → CountOf P ys n → CountOf P (xs ++ ys) (m + n)
unfolding CountOf
count_join P [] ys m n h k = subst (λ (j : ℕ). CountOf P ys j) (omega arith) k
count_join P (x ∷ xs) ys m n (inl (p, (j, e, r))) k = inl (p, (j + n, omega arith, count_join P xs ys j n r k))
count_join P (x ∷ xs) ys m n (inr (q, r)) k = inr (q, count_join P xs ys m n r k)

-- as long as there are fewer than a count has numbers
count_both : {X : Type 0} (P : X → Type 0) (xs ys : List X) (m n : ℕ) → length (xs ++ ys) < 2 ^ 64 → CountOf P xs m → CountOf P ys n → CountOf P (xs ++ ys) (capped (m + n))
count_both P xs ys m n few h k =
    let both = count_join P xs ys m n h k in
    let low = count_low P (xs ++ ys) (m + n) both in
    subst (λ (j : ℕ). CountOf P (xs ++ ys) j) (sym (capped_small (m + n) (omega (arith, low, few)))) both

module _ (May : ℕ → ℕ → State → Type 0) (c : Settings) (p : ℕ) (test : ℕ → Bool) where
  judged_both : (xs ys : List Row) (a b d e f g : ℕ) → length (xs ++ ys) < 2 ^ 64 → AreJudged May c p test xs a b d → AreJudged May c p test ys e f g → AreJudged May c p test (xs ++ ys) (capped (a + e)) (capped (b + f)) (capped (d + g))
  judged_both xs ys a b d e f g few h k =
      let i = h.place in
      let same : k.place ≡ i = let both : Some k.place ≡ Some i = sym k.is_place ∙ h.is_place in cc in
      record {
        place = i;
        is_place = h.is_place;
        all_pass = count_both (λ (x : Row). AllPass test (May i x.at)) xs ys a e few h.all_pass (subst (λ (j : ℕ). CountOf (λ (x : Row). AllPass test (May j x.at)) ys e) same k.all_pass);
        none_pass = count_both (λ (x : Row). NonePass test (May i x.at)) xs ys b f few h.none_pass (subst (λ (j : ℕ). CountOf (λ (x : Row). NonePass test (May j x.at)) ys f) same k.none_pass);
        some_pass = count_both (λ (x : Row). OnlySomePass test (May i x.at)) xs ys d g few h.some_pass (subst (λ (j : ℕ). CountOf (λ (x : Row). OnlySomePass test (May j x.at)) ys g) same k.some_pass);
      }

-- a number of each of two lists
lengths_both : {X : Type 0} (xs ys : List X) (m n : ℕ) → length (xs ++ ys) < 2 ^ 64 → m ≡ length xs → n ≡ length ys → capped (m + n) ≡ length (xs ++ ys)
lengths_both xs ys m n few e f =
    let both = length-append xs ys in
    capped_small (m + n) (omega (arith, both, few)) ∙ omega (arith, both)

-- the numbers of two lists of arrivals, and of fault rows
numbers_both : (c : Settings) (s : Store) (a : Approach) (xs ys fs gs : List Row) (t p : ArrivalSum) → AreCountable (xs ++ ys) → AreCountable (fs ++ gs) → AreNumbersOf c s a xs fs t → AreNumbersOf c s a ys gs p → AreNumbersOf c s a (xs ++ ys) (fs ++ gs) (added t p)
numbers_both c s a xs ys fs gs t p few few_faults h k =
    let sees : Row → Bool = λ x. is_known s x.at in
    let hidden : Row → Bool = λ x. not (is_known s x.at) in
    let seen : filter sees (xs ++ ys) ≡ filter sees xs ++ filter sees ys = filter-append sees xs ys in
    let other : filter hidden (xs ++ ys) ≡ filter hidden xs ++ filter hidden ys = filter-append hidden xs ys in
    let some = length_filter sees (xs ++ ys) in
    let rest = length_filter hidden (xs ++ ys) in
    let few_seen : length (filter sees xs ++ filter sees ys) < 2 ^ 64 = subst (λ (zs : List Row). length zs < 2 ^ 64) seen (omega (arith, some, few)) in
    let few_other : length (filter hidden xs ++ filter hidden ys) < 2 ^ 64 = subst (λ (zs : List Row). length zs < 2 ^ 64) other (omega (arith, rest, few)) in
    record {
      arrivals = lengths_both xs ys t.arrivals p.arrivals few h.arrivals k.arrivals;
      judged = subst (λ (zs : List Row). AreJudged (MayBeIn c s) c a.phase is_green zs (capped (t.green + p.green)) (capped (t.not_green + p.not_green)) (capped (t.undecided + p.undecided))) (sym seen)
          (judged_both (MayBeIn c s) c a.phase is_green (filter sees xs) (filter sees ys) t.green t.not_green t.undecided p.green p.not_green p.undecided few_seen h.judged k.judged);
      unseen = lengths_both (filter hidden xs) (filter hidden ys) t.unseen p.unseen few_other h.unseen k.unseen ∙ ap (λ (zs : List Row). length zs) (sym other);
      fault = lengths_both fs gs t.fault p.fault few_faults h.fault k.fault;
    }

-- ---- what a detector gives in two parts of the rows

ons_both : (test : List Row → Row → Bool) (d : ℕ) (before rows : List Row) → ons_of d (passing_from test [] (before ++ rows)) ≡ ons_of d (passing_from test [] before) ++ ons_of d (passing_from test before rows)
ons_both test d before rows = ap (λ zs. ons_of d zs) (passing-append test [] before rows) ∙ filter-append (is_on d) (passing_from test [] before) (passing_from test before rows)

pub ons_few : (test : List Row → Row → Bool) (d : ℕ) (before rows : List Row) → length (ons_of d (passing_from test before rows)) ≤ length rows
ons_few test d before rows = let a = length_filter (is_on d) (passing_from test before rows) in let b = passing_few test before rows in omega (arith, a, b)

-- ---- the arrivals that count before a point

-- no tenth past the window is known
pub past_unknown : (s : Store) (t : ℕ) → point (length s.hours) ≤ t → is_known s t ≡ false
past_unknown s t le =
    let past : length s.hours ≤ t / 36000 = omega arith in
    let none : held_at s (t / 36000) ≡ None = get_or_past s.hours (t / 36000) None past in
    rw none refl

none_both : (m n : ℕ) → m ≡ 0 → n ≡ 0 → capped (m + n) ≡ 0
unfolding capped
none_both m n e f = omega arith

none_first : (known : ℕ → Bool) (d v t : ℕ) (last : Bool) → due_of last t (arrivals_at known d v []) ≡ []
unfolding arrivals_at
none_first known d v t last = refl

-- those of the first n hours: before the last one only those before its end
abbrev upto : Settings → Store → ℕ → ℕ → ℕ → List Row
upto c s d v n = due_of (nat_le c.window.hours n) (point n) (arrivals_at (is_known s) d v (earlier_rows s n))

module _ (c : Settings) (s : Store) (n : ℕ) (store : IsStore s) (size : length s.hours ≡ c.window.hours) (within : n < length s.hours) where
  abbrev whole : List Row
  whole = earlier_rows s n ++ own_rows s n

  next : earlier_rows s (suc n) ≡ whole
  next = more_rows s n within

  whole_ordered : AreOrdered 0 (point (n + 1)) whole
  whole_ordered = ordered-append 0 (point n) (point (n + 1)) (earlier_rows s n) (own_rows s n) (earlier_ordered s n store (omega arith)) (own_ordered s n store)

  -- the last hour, in both forms
  last_same : nat_le c.window.hours (suc n) ≡ is_last c n
  last_same = elim (cases_lt (suc n) c.window.hours) [
    | inl lt ↦ lt-leb c.window.hours (suc n) lt ∙ sym (ne_eqb (n + 1) c.window.hours (λ e. omega arith))
    | inr ge ↦ le-leb c.window.hours (suc n) ge ∙ sym (eq-eqb (n + 1) c.window.hours (omega arith))
  ]

  module _ (d v : ℕ) where
    abbrev known : ℕ → Bool
    known = is_known s

    abbrev all_rows_at : List Row
    all_rows_at = arrivals_at known d v whole

    abbrev before_hour : Row → Bool
    before_hour x = nat_lt x.at (point n)

    -- the hour's rows arrive in it or later
    early_same : upto c s d v n ≡ filter before_hour all_rows_at
    early_same =
        let old = arrivals_at known d v (earlier_rows s n) in
        let new = arrivals_in known d v (earlier_rows s n) (own_rows s n) in
        let late : All (λ (z : Row). point n ≤ z.at) new = from_first (point n + v) (point (n + 1) + v) (point n) new (omega arith) (in_ordered known d v (earlier_rows s n) (point n) (point (n + 1)) (own_rows s n) (own_ordered s n store)) in
        let none : filter before_hour new ≡ [] = filter_none before_hour new (All-weaker (λ (z : Row). point n ≤ z.at) (λ z. before_hour z ≡ false) (λ z le. le-ltb z.at (point n) le) new late) in
        let all : filter before_hour all_rows_at ≡ filter before_hour old =
        ap (λ zs. filter before_hour zs) (arrivals_more known d v (earlier_rows s n) (own_rows s n))
        ∙ (filter-append before_hour old new ∙ (ap (λ zs. filter before_hour old ++ zs) none ∙ append-nil (filter before_hour old))) in
        let flag : nat_le c.window.hours n ≡ false = lt-leb c.window.hours n (omega arith) in
        ap (λ last. due_of last (point n) old) flag ∙ sym all

    -- those of one hour more are those that count in it
    upto_more : upto c s d v (suc n) ≡ upto c s d v n ++ due_in known c n d v whole
    upto_more =
        let xs = all_rows_at in
        let q : Row → Bool = λ x. nat_le c.window.hours (suc n) || nat_lt x.at (point (suc n)) in
        let order = at_ordered known d v 0 (point (n + 1)) whole whole_ordered in
        let split : filter before_hour xs ++ from_tenth (point n) xs ≡ xs = early_late (point n) (0 + v) (point (n + 1) + v) xs order in
        let first : filter q (filter before_hour xs) ≡ filter before_hour xs =
        filter_all q (filter before_hour xs) (All-weaker (λ (x : Row). before_hour x ≡ true) (λ x. q x ≡ true) (λ x e. let lt = ltb-true x.at (point n) e in or_right (nat_le c.window.hours (suc n)) (nat_lt x.at (point (suc n))) (lt-ltb x.at (point (suc n)) (omega arith))) (filter before_hour xs) (filter_passes before_hour xs)) in
        let step : point (suc n) ≡ point (n + 1) = omega arith in
        let then : filter q (from_tenth (point n) xs) ≡ due_in known c n d v whole =
        filter_twice (λ (x : Row). nat_le (point n) x.at) q xs ∙ ap₂ (λ (last : Bool) (t : ℕ). filter (λ (x : Row). nat_le (point n) x.at && (last || nat_lt x.at t)) xs) last_same step in
        ap (λ rs. due_of (nat_le c.window.hours (suc n)) (point (suc n)) (arrivals_at known d v rs)) next
        ∙ (ap (λ zs. filter q zs) (sym split)
        ∙ (filter-append q (filter before_hour xs) (from_tenth (point n) xs)
        ∙ (ap₂ (λ us vs. us ++ vs) first then
        ∙ ap (λ us. us ++ due_in known c n d v whole) (sym early_same))))

    abbrev due : List Row
    due = due_in known c n d v whole

    -- those that count in the hour are seen where their tenth is known
    seen_known : (x : Row) → counts_in c n x ≡ true → is_seen known n x ≡ known x.at
    seen_known x e = elim (cases_lt x.at (point (n + 1))) [
      | inl lt ↦ ap (λ b. known x.at && b) (lt-ltb x.at (point (n + 1)) lt) ∙ and_true (known x.at)
      | inr ge ↦ elim (or_cases (is_last c n) (nat_lt x.at (point (n + 1))) (and_parts (nat_le (point n) x.at) (is_last c n || nat_lt x.at (point (n + 1))) e).1) [
        | inl last ↦
            let end : n + 1 ≡ c.window.hours = eqb-true (n + 1) c.window.hours last in
            let past : point (length s.hours) ≤ x.at = omega arith in
            let un = past_unknown s x.at past in
            and_left (known x.at) (nat_lt x.at (point (n + 1))) un ∙ sym un
        | inr lt ↦ absurd (let l = ltb-true x.at (point (n + 1)) lt in omega arith)
      ]
    ]

    all_known : All (λ (x : Row). is_seen known n x ≡ known x.at) due
    all_known = All-weaker (λ (x : Row). counts_in c n x ≡ true) (λ x. is_seen known n x ≡ known x.at) seen_known due (filter_passes (counts_in c n) all_rows_at)

    due_seen : filter (is_seen known n) due ≡ filter (λ (x : Row). known x.at) due
    due_seen = filter_same (is_seen known n) (λ x. known x.at) due all_known

    due_unseen : filter (λ (x : Row). not (is_seen known n x)) due ≡ filter (λ (x : Row). not (known x.at)) due
    due_unseen = filter_same (λ (x : Row). not (is_seen known n x)) (λ x. not (known x.at)) due (All-weaker (λ (x : Row). is_seen known n x ≡ known x.at) (λ x. not (is_seen known n x) ≡ not (known x.at)) (λ x e. ap (λ b. not b) e) due all_known)

    due_few : length due ≤ length whole
    due_few = let a = length_filter (counts_in c n) all_rows_at in let b = arrivals_few known d v whole in omega (arith, a, b)

    upto_few : length (upto c s d v n ++ due) ≤ length whole
    upto_few =
        let q : Row → Bool = λ x. nat_le c.window.hours (suc n) || nat_lt x.at (point (suc n)) in
        let a = length_filter q (arrivals_at known d v (earlier_rows s (suc n))) in
        let b = arrivals_few known d v (earlier_rows s (suc n)) in
        let e = ap (λ (zs : List Row). length zs) upto_more in
        let f = ap (λ (zs : List Row). length zs) next in
        omega (arith, a, b, e, f)

  -- the numbers of an hour, without the hour
  part_numbers : (a : Approach) (d : ℕ) (p : ArrivalSum) → AreCountable whole → AreArrivals (MayBeIn c s) (is_known s) c a d (earlier_rows s n) (own_rows s n) n p → AreNumbersOf c s a (due d a.travel) (ons_of d (faults_from (is_known s) (earlier_rows s n) (own_rows s n))) p
  part_numbers a d p few is =
      let v = a.travel in
      let few_due = due_few d v in
      let hidden = filter (λ (x : Row). not (is_seen (is_known s) n x)) (due d v) in
      let few_hidden = length_filter (λ (x : Row). not (is_seen (is_known s) n x)) (due d v) in
      let faults = ons_of d (faults_from (is_known s) (earlier_rows s n) (own_rows s n)) in
      let few_faults = ons_few (is_fault_row (is_known s)) d (earlier_rows s n) (own_rows s n) in
      let size_is = length-append (earlier_rows s n) (own_rows s n) in
      record {
        arrivals = is.arrivals ∙ capped_small (length (due d v)) (omega (arith, few_due, few));
        judged = subst (λ (zs : List Row). AreJudged (MayBeIn c s) c a.phase is_green zs p.green p.not_green p.undecided) (due_seen d v) is.judged;
        unseen = is.unseen ∙ (capped_small (length hidden) (omega (arith, few_due, few_hidden, few)) ∙ ap (λ (zs : List Row). length zs) (due_unseen d v));
        fault = is.fault ∙ capped_small (length faults) (omega (arith, few_faults, size_is, few));
      }

-- ---- hour by hour

module _ (c : Settings) (s : Store) where
  -- the numbers of arrivals of the first n hours
  abbrev HaveUpto : ℕ → Approach → ArrivalSum → Option ℕ → Type 0
  HaveUpto n a sum None = no_arrivals sum
  HaveUpto n a sum (Some d) = AreNumbersOf c s a (upto c s d a.travel n) (ons_of d (faults_from (is_known s) [] (earlier_rows s n))) sum

  abbrev HaveActedUpto : ℕ → Approach → ArrivalSum → Option ℕ → Type 0
  HaveActedUpto n a sum o = HasActuations (MayBeIn c s) (is_known s) c a [] (earlier_rows s n) sum o

  record AreUpto (n : ℕ) (a : Approach) (sum : ArrivalSum) : Type 0 where
    arrivals : HaveUpto n a sum a.advance
    actuations : HaveActedUpto n a sum a.stop_bar

  module _ (store : IsStore s) (size : length s.hours ≡ c.window.hours) where
    first_arrivals : (a : Approach) (p : ArrivalSum) (o : Option ℕ) → HasArrivals (MayBeIn c s) (is_known s) c a (earlier_rows s 0) (own_rows s 0) 0 p o → HaveUpto 1 a p o
    first_arrivals a p None is = is
    first_arrivals a p (Some d) is =
        let some = store.some in
        let lt : 0 < length s.hours = omega arith in
        let v = a.travel in
        let part = part_numbers c s 0 store size lt a d p (few_upto s 0 store lt) is in
        let due_is : due c s 0 store size lt d v ≡ upto c s d v 1 = sym (upto_more c s 0 store size lt d v ∙ ap (λ zs. zs ++ due c s 0 store size lt d v) (none_first (is_known s) d v (point 0) (nat_le c.window.hours 0))) in
        let faults : ons_of d (faults_from (is_known s) [] (own_rows s 0)) ≡ ons_of d (faults_from (is_known s) [] (earlier_rows s 1)) = ap (λ rs. ons_of d (faults_from (is_known s) [] rs)) (sym (more_rows s 0 lt)) in
        subst (λ zs. AreNumbersOf c s a zs (ons_of d (faults_from (is_known s) [] (earlier_rows s 1))) p) due_is (subst (λ fs. AreNumbersOf c s a (due c s 0 store size lt d v) fs p) faults part)

    more_arrivals : (n : ℕ) → n < length s.hours → (a : Approach) (t p : ArrivalSum) (o : Option ℕ) → HaveUpto n a t o → HasArrivals (MayBeIn c s) (is_known s) c a (earlier_rows s n) (own_rows s n) n p o → HaveUpto (suc n) a (added t p) o
    more_arrivals n lt a t p None so is = (
      none_both t.arrivals p.arrivals so.0 is.0,
      none_both t.green p.green so.1 is.1,
      none_both t.not_green p.not_green so.2 is.2,
      none_both t.undecided p.undecided so.3 is.3,
      none_both t.unseen p.unseen so.4 is.4,
      none_both t.fault p.fault so.5 is.5,
    )
    more_arrivals n lt a t p (Some d) so is =
        let v = a.travel in
        let few = few_upto s n store lt in
        let old = earlier_rows s n in
        let own = own_rows s n in
        let test = is_fault_row (is_known s) in
        let new = due c s n store size lt d v in
        let fs = ons_of d (faults_from (is_known s) [] old) in
        let gs = ons_of d (faults_from (is_known s) old own) in
        let low = upto_few c s n store size lt d v in
        let fault_low = ons_few test d [] (old ++ own) in
        let both = ons_both test d old own in
        let few_faults : length (fs ++ gs) < 2 ^ 64 = subst (λ (zs : List Row). length zs < 2 ^ 64) both (omega (arith, fault_low, few)) in
        let joined = numbers_both c s a (upto c s d v n) new fs gs t p (omega (arith, low, few)) few_faults so (part_numbers c s n store size lt a d p few is) in
        let faults : fs ++ gs ≡ ons_of d (faults_from (is_known s) [] (earlier_rows s (suc n))) = sym both ∙ ap (λ rs. ons_of d (faults_from (is_known s) [] rs)) (sym (more_rows s n lt)) in
        subst (λ zs. AreNumbersOf c s a zs (ons_of d (faults_from (is_known s) [] (earlier_rows s (suc n)))) (added t p)) (sym (upto_more c s n store size lt d v))
        (subst (λ hs. AreNumbersOf c s a (upto c s d v n ++ new) hs (added t p)) faults joined)

    acted_both : (a : Approach) (d : ℕ) (before rows : List Row) (t p : ArrivalSum) → AreCountable (before ++ rows) → AreActuations (MayBeIn c s) (is_known s) c a d [] before t → AreActuations (MayBeIn c s) (is_known s) c a d before rows p → AreActuations (MayBeIn c s) (is_known s) c a d [] (before ++ rows) (added t p)
    acted_both a d before rows t p few h k =
        let ons = is_arrival (is_known s) in
        let faulty = is_fault_row (is_known s) in
        let xs = ons_of d (arrivals_from (is_known s) [] before) in
        let ys = ons_of d (arrivals_from (is_known s) before rows) in
        let fs = ons_of d (faults_from (is_known s) [] before) in
        let gs = ons_of d (faults_from (is_known s) before rows) in
        let both : ons_of d (arrivals_from (is_known s) [] (before ++ rows)) ≡ xs ++ ys = ons_both ons d before rows in
        let both_faults : ons_of d (faults_from (is_known s) [] (before ++ rows)) ≡ fs ++ gs = ons_both faulty d before rows in
        let low = ons_few ons d [] (before ++ rows) in
        let few_ons : length (xs ++ ys) < 2 ^ 64 = subst (λ (zs : List Row). length zs < 2 ^ 64) both (omega (arith, low, few)) in
        record {
          actuations = ap₂ (λ (m j : ℕ). capped (m + j)) h.actuations k.actuations ∙ (sym (length-add xs ys) ∙ ap (λ (zs : List Row). capped (length zs)) (sym both));
          judged = subst (λ (zs : List Row). AreJudged (MayBeIn c s) c a.phase is_red zs (capped (t.red + p.red)) (capped (t.not_red + p.not_red)) (capped (t.red_undecided + p.red_undecided))) (sym both)
              (judged_both (MayBeIn c s) c a.phase is_red xs ys t.red t.not_red t.red_undecided p.red p.not_red p.red_undecided few_ons h.judged k.judged);
          fault = ap₂ (λ (m j : ℕ). capped (m + j)) h.fault k.fault ∙ (sym (length-add fs gs) ∙ ap (λ (zs : List Row). capped (length zs)) (sym both_faults));
        }

    more_acted : (n : ℕ) → n < length s.hours → (a : Approach) (t p : ArrivalSum) (o : Option ℕ) → HaveActedUpto n a t o → HasActuations (MayBeIn c s) (is_known s) c a (earlier_rows s n) (own_rows s n) p o → HaveActedUpto (suc n) a (added t p) o
    more_acted n lt a t p None so is = (
      none_both t.actuations p.actuations so.0 is.0,
      none_both t.red p.red so.1 is.1,
      none_both t.not_red p.not_red so.2 is.2,
      none_both t.red_undecided p.red_undecided so.3 is.3,
      none_both t.red_fault p.red_fault so.4 is.4,
    )
    more_acted n lt a t p (Some d) so is =
        subst (λ rs. AreActuations (MayBeIn c s) (is_known s) c a d [] rs (added t p)) (sym (more_rows s n lt)) (acted_both a d (earlier_rows s n) (own_rows s n) t p (few_upto s n store lt) so is)

    first_upto : (a : Approach) (p : ArrivalSum) → HasJudged (MayBeIn c s) (is_known s) c (earlier_rows s 0) (own_rows s 0) 0 a p → AreUpto 1 a p
    first_upto a p is =
        let some = store.some in
        let lt : 0 < length s.hours = omega arith in
        record {
          arrivals = first_arrivals a p a.advance is.arrivals;
          actuations = subst (λ rs. HasActuations (MayBeIn c s) (is_known s) c a [] rs p a.stop_bar) (sym (more_rows s 0 lt)) is.actuations;
        }

    more_upto : (n : ℕ) → n < length s.hours → (a : Approach) (t p : ArrivalSum) → AreUpto n a t → HasJudged (MayBeIn c s) (is_known s) c (earlier_rows s n) (own_rows s n) n a p → AreUpto (suc n) a (added t p)
    more_upto n lt a t p so is = record {
      arrivals = more_arrivals n lt a t p a.advance so.arrivals is.arrivals;
      actuations = more_acted n lt a t p a.stop_bar so.actuations is.actuations;
    }

    arrivals_end : (a : Approach) (t : ArrivalSum) (o : Option ℕ) → HaveUpto (length s.hours) a t o → HaveTotals c s a t o
    arrivals_end a t None is = is
    arrivals_end a t (Some d) is =
        let v = a.travel in
        let xs = arrivals_at (is_known s) d v (earlier_rows s (length s.hours)) in
        let last : nat_le c.window.hours (length s.hours) ≡ true = le-leb c.window.hours (length s.hours) (omega arith) in
        let all : upto c s d v (length s.hours) ≡ xs = ap (λ b. due_of b (point (length s.hours)) xs) last ∙ filter_all (λ (x : Row). true) xs (λ k e lt. refl) in
        subst (λ rs. AreNumbersOf c s a (arrivals_at (is_known s) d v rs) (ons_of d (faults_from (is_known s) [] rs)) t) (all_rows s)
        (subst (λ zs. AreNumbersOf c s a zs (ons_of d (faults_from (is_known s) [] (earlier_rows s (length s.hours)))) t) all is)

    at_end : (a : Approach) (t : ArrivalSum) → AreUpto (length s.hours) a t → AreTotalsOf c s a t
    at_end a t is = record {
      arrivals = arrivals_end a t a.advance is.arrivals;
      actuations = subst (λ rs. HasActuations (MayBeIn c s) (is_known s) c a [] rs t a.stop_bar) (all_rows s) is.actuations;
    }

pub arrival_totals : ArrivalTotals
arrival_totals c s all store size is =
    let Part : ℕ → Approach → ArrivalSum → Type 0 = λ n a p. HasJudged (MayBeIn c s) (is_known s) c (earlier_rows s n) (own_rows s n) n a p in
    let Total : ℕ → Approach → ArrivalSum → Type 0 = λ n a t. AreUpto c s n a t in
    let same = is.size in
    let some = store.some in
    let whole_log = all_total added (λ (n : Numbers). n.arrivals) refl (λ x y. refl) Part Total c.approaches all
    (λ n d lt. let here = (is.each n d (omega arith)).measures.judged in each_of_places (Part n) c.approaches (get_or all n d).arrivals here.size here.each)
    (λ a p one. first_upto c s store size a p one)
    (λ n lt a t p so one. more_upto c s store size n (omega arith) a t p so one)
    (omega arith) in
    let last = subst (λ (n : ℕ). Each (Total n) c.approaches (total_of all).arrivals) same whole_log in
    each_as (Total (length s.hours)) (AreTotalsOf c s) c.approaches (total_of all).arrivals (λ a t so. at_end c s store size a t so) last
