-- Verdicts add up.
use Rattle.std.proofs.Common.{Bool, eqb, nat_le, nat_lt, ◌≡◌, refl, ap, sym, ◌∙◌, inl, inr, ℕ, suc, ◌+◌, ◌^◌, ◌<◌, ◌≤◌, true, false, not, cond, Option, Some, None, List, [], ◌∷◌, ◌++◌, length, map, get_or, length-append, arith}
use Rattle.std.specs.Prelude.{count_by}
use Rattle.std.specs.List.{cons_option, filter}
use Rattle.std.proofs.lemmas.Bool.{cases_Bool}
use Rattle.std.proofs.lemmas.List.{length-map}
use Rattle.std.proofs.lemmas.List.Filters.{length-filter_both}
use Rattle.std.proofs.lemmas.List.Quantifiers.{position-Some}
use Rattle.std.proofs.lemmas.List.Sums.{sum_by-cons}
use Rattle.sig_base.specs.declared.values.PhaseItem.{PhaseItem}
use Rattle.sig_base.specs.declared.values.Row.{Row}
use Rattle.sig_base.specs.Numbers.{has_phase}
use Rattle.channel_tables.specs.declared.spec.Spec.{Spec}
use Rattle.reach.specs.Runs.{State}
use Rattle.board.specs.Logs.{end_tenth, first_tenth, no_spec}
use Rattle.hour_store.specs.Store.{Store, is_known}
use Rattle.hour_sweep.specs.Sums.{capped, one_if}
use Rattle.hour_sweep.specs.Numbers.{given, outs_from}
use Rattle.service_cut.specs.declared.items.Service.{Service}
use Rattle.service_cut.specs.Cut.{services_from}
use Rattle.service_cut.specs.Services.{service_at}
use Rattle.hour_sweep.proofs.Adding.{capped_small}
use Rattle.ring_config.specs.Settings.{Settings, is_same_channel, spec_place}
use Rattle.ring_config.specs.declared.items.Approach.{Approach}
use Rattle.signal_log.specs.Log.{HasHistory, log_of}
use Rattle.stop_bar.specs.Windows.{left}
use Rattle.ring_config.proofs.SpecLaws.{length_filter}
use Rattle.stop_bar.specs.Going.{of_phase}
use Rattle.stop_bar.specs.Bars.{ending, services_upto, without_end}
use Rattle.stop_bar.specs.Lists.{Each}
use Rattle.stop_bar.proofs.Common.{each_long}
use Rattle.split_measures.specs.declared.verdict.SplitVerdict.{SplitVerdict}
use Rattle.split_measures.specs.declared.verdict.SplitVerdict.TheVariants.{Fail, Pass, Undecided, Open, Fault}
use Rattle.split_measures.specs.Failures.{is_verdict, split_sum_of}
use Rattle.split_measures.specs.Hours.{open_in, opens_of}
use Rattle.split_measures.specs.Verdicts.{IsVerdict}
use Rattle.arrival_measures.specs.Arrivals.{is_on, ons_of}
use Rattle.arrival_measures.specs.declared.sums.ArrivalSum.{ArrivalSum}
use Rattle.arrival_measures.specs.Faults.{arrivals_from, is_arrival, passing_from}
use Rattle.arrival_measures.specs.Judged.{AllPass, CountOf, NonePass, OnlySomePass, is_green, phase_channel}
use Rattle.arrival_measures.specs.Travel.{arrivals_at, shifted}
use Rattle.arrival_measures.specs.Hours.{AreArrivals, HasArrivals, counts_in, due_in, is_seen}
use Rattle.hour_work.specs.Rows.{earlier_rows, own_rows}
use Rattle.hour_work.specs.Measures.{MayBeIn}
use Rattle.hour_work.proofs.OneLaws.{end_state}
use Rattle.measure_laws.proofs.Totals.{few_upto}
use Rattle.measure_laws.specs.Sums.{AddsUp, AreCountable, ArrivalsAddUp, SplitsAddUp, SumsKeepAddingUp, all_verdicts}

-- ---- services

abbrev how_often : SplitVerdict → List SplitVerdict → ℕ
how_often v vs = count_by (is_verdict v) vs

one_more : (v w : SplitVerdict) (vs : List SplitVerdict) → how_often v (w ∷ vs) ≡ one_if (is_verdict v w) + how_often v vs
one_more v w vs = sum_by-cons (λ (x : SplitVerdict). cond (is_verdict v x) 1 0) w vs

one_of_five : (w : SplitVerdict) → one_if (is_verdict Fail w) + one_if (is_verdict Pass w) + one_if (is_verdict Undecided w) + one_if (is_verdict Open w) + one_if (is_verdict Fault w) ≡ 1
one_of_five Fail = refl
one_of_five Pass = refl
one_of_five Undecided = refl
one_of_five Open = refl
one_of_five Fault = refl

all_counted : (vs : List SplitVerdict) → how_often Fail vs + how_often Pass vs + how_often Undecided vs + how_often Open vs + how_often Fault vs ≡ length vs
all_counted [] = refl
all_counted (w ∷ vs) =
    let a = one_more Fail w vs in
    let b = one_more Pass w vs in
    let c = one_more Undecided w vs in
    let d = one_more Open w vs in
    let e = one_more Fault w vs in
    let one = one_of_five w in
    let rest = all_counted vs in
    omega (arith, a, b, c, d, e, one, rest)

pub verdicts_add : (vs : List SplitVerdict) → length vs < 2 ^ 64 → all_verdicts (split_sum_of vs) ≡ length vs
unfolding split_sum_of
verdicts_add vs lt =
    let all = all_counted vs in
    let a = capped_small (how_often Fail vs) (omega (arith, all)) in
    let b = capped_small (how_often Pass vs) (omega (arith, all)) in
    let c = capped_small (how_often Undecided vs) (omega (arith, all)) in
    let d = capped_small (how_often Open vs) (omega (arith, all)) in
    let e = capped_small (how_often Fault vs) (omega (arith, all)) in
    rw (a, b, c, d, e) all

pub cons_few : {X : Type 0} (o : Option X) (xs : List X) → length (cons_option o xs) ≤ suc (length xs)
cons_few None xs = omega arith
cons_few (Some x) xs = omega arith

pub outs_few : {O : Type 0} (out_at : ℕ → List Row → Row → List Row → Option O) (has : ℕ → Bool) (before rows : List Row) → length (outs_from out_at has before rows) ≤ length rows
outs_few out_at has before [] = omega arith
outs_few out_at has before (r ∷ rs) =
    let here = cons_few (given out_at has before r rs) (outs_from out_at has (before ++ r ∷ []) rs) in
    let rest = outs_few out_at has (before ++ r ∷ []) rs in
    omega (arith, here, rest)

-- a service counts once in an hour
pub two_few : (a b : ℕ) (ss : List Service) → length (ending a b ss) + length (left b ss) ≤ length ss
two_few a b [] = omega arith
two_few a b (s ∷ ss) =
    let rest = two_few a b ss in
    elim (cases_Bool (nat_le (s.r + 50) b)) [
      | inl t ↦ elim (cases_Bool (nat_lt a (s.r + 50))) [
        | inl u ↦ rw (t, u) (omega (arith, rest))
        | inr u ↦ rw (t, u) (omega (arith, rest))
      ]
      | inr f ↦ elim (cases_Bool (nat_lt a (s.r + 50))) [
        | inl u ↦ rw (f, u) (omega (arith, rest))
        | inr u ↦ rw (f, u) (omega (arith, rest))
      ]
    ]

pub open_few : (hours hour : ℕ) (ss : List Service) → length (open_in hours hour ss) ≤ length (left (end_tenth hour) ss)
open_few hours hour ss = elim (cases_Bool (nat_le hours (hour + 1))) [
  | inl t ↦ rw t (omega arith)
  | inr f ↦ rw f (omega arith)
]

pub all_few : (known : ℕ → Bool) (phases : List PhaseItem) (p : ℕ) (upto : List Row) → length (services_upto known phases p upto) ≤ length upto
all_few known phases p upto =
    let a = length_filter (λ (s : Service). eqb s.phase p) (services_from known phases [] upto) in
    let same = length-map (of_phase p (services_from known phases [] upto)) without_end in
    let b = outs_few (service_at known) (has_phase phases) [] upto in
    omega (arith, a, b, same)

pub splits_add_up : SplitsAddUp
splits_add_up log c i b hour upto sum few is =
    let all = services_upto log.known c.phases b.phase upto in
    let ended = ending (first_tenth hour) (end_tenth hour) all in
    let waiting = open_in c.window.hours hour all in
    let long = each_long (λ s v. IsVerdict log i b.high s v) ended is.verdicts is.each in
    let opens : length (opens_of waiting) ≡ length waiting = length-map waiting (λ s. Open) in
    let both : length (is.verdicts ++ opens_of waiting) ≡ length is.verdicts + length (opens_of waiting) = rw length-append refl in
    let size : length (is.verdicts ++ opens_of waiting) ≡ length ended + length waiting = omega (arith, both, opens, long) in
    let x = two_few (first_tenth hour) (end_tenth hour) all in
    let y = open_few c.window.hours hour all in
    let z = all_few log.known c.phases b.phase upto in
    let lt : length (is.verdicts ++ opens_of waiting) < 2 ^ 64 = omega (arith, size, x, y, z, few) in
    ap all_verdicts is.sums ∙ (verdicts_add (is.verdicts ++ opens_of waiting) lt ∙ size)

-- ---- arrivals

-- of each state-set one of three holds, where there is a state
module _ {X : Type 0} (test : ℕ → Bool) (May : X → State → Type 0) where
  no_two : (x : X) (v : State) → May x v → AllPass test (May x) → NonePass test (May x) → ⊥
  no_two x v may all none = let bad : true ≡ false = sym (all v may) ∙ none v may in absurd (cc)

  pub three_add : (xs : List X) (a b c : ℕ) → Each (λ (x : X) (y : X). (v : State) × May x v) xs xs → CountOf (λ x. AllPass test (May x)) xs a → CountOf (λ x. NonePass test (May x)) xs b → CountOf (λ x. OnlySomePass test (May x)) xs c → a + b + c ≡ length xs
  unfolding CountOf
  three_add [] a b c some x y z = rw (x, y, z) refl
  three_add (e ∷ es) a b c (here, more) (inl (p, (m, em, rp))) (inl (q, r)) z = absurd (no_two e here.0 here.1 p q)
  three_add (e ∷ es) a b c (here, more) (inl (p, (m, em, rp))) (inr (nq, rq)) (inl (s, rs)) = absurd (s.0 p)
  three_add (e ∷ es) a b c (here, more) (inl (p, (m, em, rp))) (inr (nq, rq)) (inr (ns, rs)) = let rest = three_add es m b c more rp rq rs in omega (arith, em, rest)
  three_add (e ∷ es) a b c (here, more) (inr (np, rp)) (inl (q, (m, em, rq))) (inl (s, rs)) = absurd (s.1 q)
  three_add (e ∷ es) a b c (here, more) (inr (np, rp)) (inl (q, (m, em, rq))) (inr (ns, rs)) = let rest = three_add es a m c more rp rq rs in omega (arith, em, rest)
  three_add (e ∷ es) a b c (here, more) (inr (np, rp)) (inr (nq, rq)) (inl (s, (m, em, rs))) = let rest = three_add es a b m more rp rq rs in omega (arith, em, rest)
  three_add (e ∷ es) a b c (here, more) (inr (np, rp)) (inr (nq, rq)) (inr (ns, rs)) = absurd (ns (np, nq))

each_own : {X : Type 0} (P : X → Type 0) (xs : List X) → ((x : X) → P x) → Each (λ (x : X) (y : X). P x) xs xs
each_own P [] h = tt
each_own P (x ∷ xs) h = (h x, each_own P xs h)

pub passing_few : (test : List Row → Row → Bool) (before rows : List Row) → length (passing_from test before rows) ≤ length rows
passing_few test before [] = omega arith
passing_few test before (x ∷ xs) =
    let rest = passing_few test (before ++ x ∷ []) xs in
    elim (cases_Bool (test before x)) [ inl t ↦ rw t (omega (arith, rest)) | inr f ↦ rw f (omega (arith, rest)) ]

pub arrivals_few : (known : ℕ → Bool) (d v : ℕ) (rows : List Row) → length (arrivals_at known d v rows) ≤ length rows
unfolding arrivals_at
arrivals_few known d v rows =
    let a : length (map (shifted v) (ons_of d (arrivals_from known [] rows))) ≡ length (ons_of d (arrivals_from known [] rows)) = length-map (ons_of d (arrivals_from known [] rows)) (shifted v) in
    let b = length_filter (is_on d) (arrivals_from known [] rows) in
    let c = passing_few (is_arrival known) [] rows in
    omega (arith, a, b, c)

module _ (c : Settings) (s : Store) (hour : ℕ) (has : HasHistory (log_of c.specs s)) (few : AreCountable (earlier_rows s hour ++ own_rows s hour)) where
  abbrev rows : List Row
  rows = earlier_rows s hour ++ own_rows s hour

  shows : (p i : ℕ) → spec_place c.specs (phase_channel p) ≡ Some i → (x : Row) → (v : State) × MayBeIn c s i x.at v
  shows p i at x =
      let (h, a) = has in
      let within : i < length c.specs = (position-Some (λ (z : Spec). is_same_channel z.channel (phase_channel p)) c.specs i no_spec at).0 in
      let (v, is) = end_state (log_of c.specs s) h x.at i a within in
      (v, (h, a, is))

  one_adds : (a : Approach) (d : ℕ) (sum : ArrivalSum) → AreArrivals (MayBeIn c s) (is_known s) c a d (earlier_rows s hour) (own_rows s hour) hour sum → AddsUp sum
  one_adds a d sum are =
      let due = due_in (is_known s) c hour d a.travel rows in
      let seen = filter (is_seen (is_known s) hour) due in
      let j = are.judged in
      let three = three_add is_green (λ (x : Row). MayBeIn c s j.place x.at) seen sum.green sum.not_green sum.undecided (each_own (λ (x : Row). (v : State) × MayBeIn c s j.place x.at v) seen (shows a.phase j.place j.is_place)) j.all_pass j.none_pass j.some_pass in
      let both = length-filter_both (is_seen (is_known s) hour) (λ x. not (is_seen (is_known s) hour x)) (λ x. refl) due in
      let m = length_filter (counts_in c hour) (arrivals_at (is_known s) d a.travel rows) in
      let n = arrivals_few (is_known s) d a.travel rows in
      let unseen = filter (λ x. not (is_seen (is_known s) hour x)) due in
      let all : capped (length due) ≡ length due = capped_small (length due) (omega (arith, m, n, few)) in
      let rest : capped (length unseen) ≡ length unseen = capped_small (length unseen) (omega (arith, m, n, few, both)) in
      let e = are.arrivals in
      let f = are.unseen in
      omega (arith, three, both, all, rest, e, f)

  approach_adds : (a : Approach) (d : Option ℕ) (sum : ArrivalSum) → HasArrivals (MayBeIn c s) (is_known s) c a (earlier_rows s hour) (own_rows s hour) hour sum d → AddsUp sum
  approach_adds a None sum (x, y, z, u, w, f) = rw (x, y, z, u, w) refl
  approach_adds a (Some d) sum are = one_adds a d sum are

no_approach : Approach
no_approach = record { name = []; phase = 0; advance = None; stop_bar = None; travel = 0; high = record { num = 0; den = 0 } }

pub arrivals_add_up : ArrivalsAddUp
arrivals_add_up c s hour sums i d store within has are lt =
    let few = few_upto s hour store within in
    let here = are.each i no_approach d lt in
    let a = get_or c.approaches i no_approach in
    approach_adds c s hour has few a a.advance (get_or sums i d) here.arrivals

-- ---- two parts

pub sums_keep_adding_up : SumsKeepAddingUp
sums_keep_adding_up = (
  λ a b lt x y.
      let e = capped_small (a.arrivals + b.arrivals) lt in
      let g = capped_small (a.green + b.green) (omega (arith, lt, x, y)) in
      let n = capped_small (a.not_green + b.not_green) (omega (arith, lt, x, y)) in
      let u = capped_small (a.undecided + b.undecided) (omega (arith, lt, x, y)) in
      let w = capped_small (a.unseen + b.unseen) (omega (arith, lt, x, y)) in
      rw (e, g, n, u, w) (omega (arith, x, y)),
  λ a b lt.
      let f = capped_small (a.fail + b.fail) (omega (arith, lt)) in
      let p = capped_small (a.pass + b.pass) (omega (arith, lt)) in
      let u = capped_small (a.undecided + b.undecided) (omega (arith, lt)) in
      let o = capped_small (a.left_open + b.left_open) (omega (arith, lt)) in
      let x = capped_small (a.fault + b.fault) (omega (arith, lt)) in
      rw (f, p, u, o, x) (omega arith),
)
