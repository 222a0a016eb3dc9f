-- The cycles of an hour, and what had begun of them before it.
use Rattle.std.proofs.Common.{◌≡◌, ◌≢◌, ℕ, zero, suc, ◌+◌, ◌<◌, ◌≤◌, Bool, true, false, cond, eqb, List, [], ◌∷◌, ◌++◌, Option, Some, None, map, refl, ap, sym, subst, ◌∙◌, append_assoc, arith, inl, inr}
use Rattle.std.specs.Prelude.{All, IfSome, find, filter_map, option_map}
use Rattle.std.specs.List.{cons_option, range_with_len}
use Rattle.std.proofs.lemmas.Bool.{cases_Bool, cases_eq, le-leb, eq-eqb, ne_eqb}
use Rattle.std.proofs.lemmas.List.{append-nil}
use Rattle.std.proofs.lemmas.List.Elements.{All-nil, All-cons, All-weaker}
use Rattle.sig_base.specs.declared.values.Row.{Row}
use Rattle.sig_base.specs.declared.values.PhaseItem.{PhaseItem}
use Rattle.sig_base.specs.Numbers.{has_phase}
use Rattle.sig_base.proofs.Common.{clash}
use Rattle.hour_sweep.specs.Rows.{kept_last, live, known_rows}
use Rattle.hour_sweep.specs.Hours.{AreOrdered, point}
use Rattle.hour_sweep.specs.Numbers.{numbered, given, outs_from}
use Rattle.hour_sweep.proofs.Known.{since_le, since_known, live_lost}
use Rattle.hour_sweep.proofs.Orders.{filter_ordered, below_end}
use Rattle.hour_sweep.proofs.Places.{AllLast}
use Rattle.service_cut.specs.declared.cycles.CycleBegun.{CycleBegun}
use Rattle.service_cut.specs.declared.items.Cycle.{Cycle}
use Rattle.service_cut.specs.declared.items.OpenCycle.{OpenCycle}
use Rattle.service_cut.specs.Cycles.{is_yellow_end, last_end_from, cycle_begun, cycle_begun_in, cycle_begun_of, cycle_of, cycle_at}
use Rattle.service_cut.specs.Parts.{room, part_of, open_cycle_of, open_cycle}
use Rattle.service_cut.specs.Cut.{cycles_from, CutLists, IsCut}
use Rattle.service_cut.proofs.Rooms.{has_room}
use Rattle.service_cut.proofs.YellowEnds.{from_first}
use Rattle.service_cut.proofs.Fitting.{row_late, earlier_low, end_all}
use Rattle.ring_config.specs.Settings.{Settings}
use Rattle.arrival_measures.specs.declared.open.Open.{Open}
use Rattle.arrival_measures.specs.Opens.{open_at}
use Rattle.arrival_measures.specs.Crossing.{open_since, open_with}
use Rattle.ring_config.specs.declared.items.Approach.{Approach}
use Rattle.arrival_measures.specs.Travel.{told}
use Rattle.arrival_measures.specs.Steps.{IsCycleOf}

-- the last end of yellow of two lists of rows

abbrev joined_last : Option (Row × List Row) → Option (Row × List Row) → List Row → Option (Row × List Row)
joined_last (Some f) o ys = Some f
joined_last None (Some f) ys = Some (f.0, f.1 ++ ys)
joined_last None None ys = None

joined_kept : (l o : Option (Row × List Row)) (b : Bool) (x : Row) (xs ys : List Row) → kept_last (joined_last l o ys) b x (xs ++ ys) ≡ joined_last l (kept_last o b x xs) ys
joined_kept (Some f) o b x xs ys = refl
joined_kept None (Some f) b x xs ys = refl
joined_kept None None true x xs ys = refl
joined_kept None None false x xs ys = refl

joined_none : (l : Option (Row × List Row)) (ys : List Row) → l ≡ joined_last l None ys
joined_none (Some f) ys = refl
joined_none None ys = refl

end_from-append : (known : ℕ → Bool) (p : ℕ) (before xs ys : List Row) → last_end_from known p before (xs ++ ys) ≡ joined_last (last_end_from known p (before ++ xs) ys) (last_end_from known p before xs) ys
end_from-append known p before [] ys = rw (append-nil before) (joined_none (last_end_from known p before ys) ys)
end_from-append known p before (x ∷ xs) ys =
    let first = before ++ x ∷ [] in
    let more = end_from-append known p first xs ys ∙ ap (λ zs. joined_last (last_end_from known p zs ys) (last_end_from known p first xs) ys) (append_assoc before (x ∷ []) xs) in
    ap (λ o. kept_last o (is_yellow_end known p before x) x (xs ++ ys)) more
    ∙ joined_kept (last_end_from known p (before ++ (x ∷ xs)) ys) (last_end_from known p first xs) (is_yellow_end known p before x) x xs ys

-- what is live

live_knows : (known : ℕ → Bool) (a t : ℕ) → live known a t ≡ true → (k : ℕ) → a ≤ k → k < t → known k ≡ true
live_knows known a t l k lo hi = elim (cases_Bool (known k)) [ inl e ↦ e | inr e ↦ absurd (clash (live known a t) l (live_lost known a k t lo hi e)) ]

live_back : (known : ℕ → Bool) (a f t : ℕ) → a ≤ f → f ≤ t → live known a t ≡ true → live known a f ≡ true
unfolding live
live_back known a f t lo hi l =
    let kn = live_knows known a t l in
    let e = since_known known a f lo (λ k x y. kn k x (omega arith)) in
    let s = since_le known a in
    le-leb _ _ (omega arith)

-- the cycle that has begun at tenth t, of an hour from tenth `first` on, where these rows stand before it
pub record IsBegun (known : ℕ → Bool) (p : ℕ) (before : List Row) (first t : ℕ) (s : CycleBegun) : Type 0 where
  pub order : s.from.at ≤ t
  pub all_known : (k : ℕ) → s.from.at ≤ k → k < t → known k ≡ true
  pub earlier : s.from.at < first → (u : CycleBegun) × (cycle_begun_of known first p before ≡ Some u) × (u.from.at ≡ s.from.at)

begun_from : (known : ℕ → Bool) (p t : ℕ) (f : Row) (after : List Row) (s : CycleBegun) → cycle_begun_in known t p (Some (f, after)) ≡ Some s → (live known f.at t ≡ true) × (s.from ≡ f)
begun_from known p t f after s e = elim (cases_Bool (live known f.at t)) [
  | inl l ↦ let e1 : Some (cycle_begun p f after) ≡ Some s = rw l at e in let e2 : cycle_begun p f after ≡ s = cc in (l, sym (ap (λ (z : CycleBegun). z.from) e2))
  | inr l ↦ absurd (let e1 : None ≡ Some s = rw l at e in cc)
]

begun_cases : (known : ℕ → Bool) (p : ℕ) (before xs : List Row) (first t : ℕ) (s : CycleBegun) (now past : Option (Row × List Row)) → first ≤ t → AllLast (λ x. first ≤ x.at) now → AllLast (λ x. x.at ≤ t) now → AllLast (λ x. x.at < first) past → last_end_from known p [] before ≡ past → cycle_begun_in known t p (joined_last now past xs) ≡ Some s → IsBegun known p before first t s
unfolding cycle_begun_of
begun_cases known p before xs first t s (Some f) past le low high early same e =
    let b = begun_from known p t f.0 f.1 s e in
    let at : s.from.at ≡ f.0.at = ap (λ (z : Row). z.at) b.1 in
    let lo = low.0 in
    let hi = high.0 in
    record { order = omega arith; all_known = λ k x y. live_knows known f.0.at t b.0 k (omega arith) y; earlier = λ lt. absurd (omega arith) }
begun_cases known p before xs first t s None (Some f) le low high early same e =
    let b = begun_from known p t f.0 (f.1 ++ xs) s e in
    let at : s.from.at ≡ f.0.at = ap (λ (z : Row). z.at) b.1 in
    let lo = early.0 in
    let l = live_back known f.0.at first t (omega arith) le b.0 in
    record {
      order = omega arith;
      all_known = λ k x y. live_knows known f.0.at t b.0 k (omega arith) y;
      earlier = λ lt. (cycle_begun p f.0 f.1, ap (λ o. cycle_begun_in known first p o) same ∙ ap (λ v. cond v (Some (cycle_begun p f.0 f.1)) None) l, sym at);
    }
begun_cases known p before xs first t s None None le low high early same e = absurd (cc)

pub begun_is : (known : ℕ → Bool) (p : ℕ) (before xs : List Row) (first t : ℕ) (s : CycleBegun) → first ≤ t → All (λ x. x.at < first) before → All (λ x. first ≤ x.at) xs → All (λ x. x.at ≤ t) xs → cycle_begun_of known t p (before ++ xs) ≡ Some s → IsBegun known p before first t s
unfolding cycle_begun_of
begun_is known p before xs first t s le early low high e =
    begun_cases known p before xs first t s (last_end_from known p before xs) (last_end_from known p [] before) le
    (end_all (λ x. first ≤ x.at) known p before xs low) (end_all (λ x. x.at ≤ t) known p before xs high) (end_all (λ x. x.at < first) known p [] before early) refl
    (ap (λ o. cycle_begun_in known t p o) (sym (end_from-append known p [] before xs)) ∙ e)

-- a whole cycle of the hour
pub record IsOfHour (known : ℕ → Bool) (before : List Row) (first : ℕ) (c : Cycle) : Type 0 where
  pub order : c.from ≤ c.to
  pub later : first ≤ c.to
  pub all_known : (k : ℕ) → c.from ≤ k → k < c.to → known k ≡ true
  pub earlier : c.from < first → (u : CycleBegun) × (cycle_begun_of known first c.phase before ≡ Some u) × (u.from.at ≡ c.from)

if_some : {O : Type 0} (b : Bool) (o : Option O) (c : O) → cond b o None ≡ Some c → o ≡ Some c
if_some true o c e = e
if_some false o c e = absurd (cc)

abbrev IsOf : ℕ → Row → Cycle → CycleBegun → Type 0
IsOf p r c s = (c.phase ≡ p) × (c.from ≡ s.from.at) × (c.to ≡ r.at)

cycle_some : (p : ℕ) (o : Option CycleBegun) (r : Row) (c : Cycle) → cycle_of p o r ≡ Some c → (s : CycleBegun) × (o ≡ Some s) × IsOf p r c s
cycle_some p None r c e = absurd (cc)
cycle_some p (Some s) r c e = (s, refl, let phase : c.phase ≡ p = cc in let from : c.from ≡ s.from.at = cc in let to : c.to ≡ r.at = cc in (phase, from, to))

of_hour : (known : ℕ → Bool) (before xs : List Row) (first : ℕ) (r : Row) (c : Cycle) → first ≤ r.at → All (λ x. x.at < first) before → All (λ x. first ≤ x.at) xs → All (λ x. x.at ≤ r.at) xs → cycle_at known r.param (before ++ xs) r ≡ Some c → IsOfHour known before first c
unfolding cycle_at
of_hour known before xs first r c le early low high e =
    let (s, is, (phase, from, to)) = cycle_some r.param (cycle_begun_of known r.at r.param (before ++ xs)) r c (if_some (is_yellow_end known r.param (before ++ xs) r) (cycle_of r.param (cycle_begun_of known r.at r.param (before ++ xs)) r) c e) in
    let b = begun_is known r.param before xs first r.at s le early low high is in
    let order = b.order in
    record {
      order = omega arith;
      later = omega arith;
      all_known = λ k lo hi. b.all_known k (omega arith) (omega arith);
      earlier = λ lt. let (u, was, at) = b.earlier (omega arith) in (u, ap (λ n. cycle_begun_of known first n before) phase ∙ was, at ∙ sym from);
    }

-- what holds of all that rows give

given_all : {O : Type 0} (P : O → Type 0) (o : Option O) (os : List O) → ((c : O) → o ≡ Some c → P c) → All P os → All P (cons_option o os)
given_all P None os h more = more
given_all P (Some c) os h more = All-cons P c os (h c refl) more

outs_all : {O : Type 0} (P : O → Type 0) (out : ℕ → List Row → Row → List Row → Option O) (has : ℕ → Bool) (before rows : List Row) → ((xs : List Row) (r : Row) (ys : List Row) (c : O) → rows ≡ xs ++ r ∷ ys → out r.param (before ++ xs) r ys ≡ Some c → P c) → All P (outs_from out has before rows)
outs_all P out has before [] h = All-nil P
outs_all P out has before (r ∷ rs) h = given_all P (given out has before r rs) (outs_from out has (before ++ r ∷ []) rs)
    (λ c e. h [] r rs c refl (ap (λ zs. out r.param zs r rs) (append-nil before) ∙ if_some (has r.param) (out r.param before r rs) c e))
    (outs_all P out has (before ++ r ∷ []) rs (λ xs x ys c e o. h (r ∷ xs) x ys c (ap (λ zs. r ∷ zs) e) (ap (λ zs. out x.param zs x ys) (sym (append_assoc before (r ∷ []) xs)) ∙ o)))

-- the rows in front of one

front_low : (a b c : ℕ) (xs : List Row) (r : Row) (ys : List Row) → c ≤ a → AreOrdered a b (xs ++ r ∷ ys) → All (λ x. c ≤ x.at) xs
front_low a b c [] r ys le h = All-nil (λ x. c ≤ x.at)
front_low a b c (x ∷ xs) r ys le h = let l = h.0 in All-cons (λ z. c ≤ z.at) x xs (omega arith) (front_low x.at b c xs r ys (omega arith) h.2)

pub cycles_of_hour : (known : ℕ → Bool) (phases : List PhaseItem) (before seen : List Row) (first end : ℕ) → All (λ x. x.at < first) before → AreOrdered first end seen → All (IsOfHour known before first) (cycles_from known phases before seen)
cycles_of_hour known phases before seen first end early or = outs_all (IsOfHour known before first) (λ p earlier r rest. cycle_at known p earlier r) (has_phase phases) before seen
    (λ xs r ys c e o.
    let or' = subst (λ (zs : List Row). AreOrdered first end zs) e or in
    of_hour known before xs first r c (row_late first end xs r ys or') early (front_low first end first xs r ys (omega arith) or') (earlier_low first end xs r ys or') o)

-- what had begun is at hand

-- by the open cycle of a phase, and by what has begun of it, the same has been given
pub open_same : (p d t : ℕ) (rows : List Row) (o : Option CycleBegun) → open_since p d t rows (open_cycle_of p o) ≡ option_map (λ s. open_at p d s.from.at t rows) o
open_same p d t rows None = refl
open_same p d t rows (Some s) = refl

begun_open : (known : ℕ → Bool) (a : Approach) (d first : ℕ) (before : List Row) (begun : Option Open) (u : CycleBegun) (from : ℕ) → begun ≡ open_with known first before a (Some d) → cycle_begun_of known first a.phase before ≡ Some u → u.from.at ≡ from → begun ≡ Some (open_at a.phase d from first (told known a.phase d a.travel before))
begun_open known a d first before begun u from e is at = e ∙ ap (λ (o : Option CycleBegun). option_map (λ s. open_at a.phase d s.from.at first (told known a.phase d a.travel before)) o) is ∙ ap (λ n. Some (open_at a.phase d n first (told known a.phase d a.travel before))) at

pub are_cycles_of : (known : ℕ → Bool) (c : Settings) (a : Approach) (d : ℕ) (before : List Row) (hour : ℕ) (rows : List Row) (cuts : CutLists) (begun : Option Open) → All (λ x. x.at < point hour) before → AreOrdered (point hour) (point hour + 36000) rows → IsCut known c.phases before hour rows cuts → begun ≡ open_with known (point hour) before a (Some d) → All (λ z. z.phase ≡ a.phase → IsCycleOf known a.phase d (point hour) (told known a.phase d a.travel before) begun z.from z.to) cuts.cycles
are_cycles_of known c a d before hour rows cuts begun early ordered cut e =
    let seen = known_rows known rows in
    let or = filter_ordered known (point hour) (point hour + 36000) (point hour) rows (omega arith) ordered in
    let all = cycles_of_hour known c.phases before seen (point hour) (point hour + 36000) early or in
    rw cut.cycles_are (All-weaker (IsOfHour known before (point hour)) (λ z. z.phase ≡ a.phase → IsCycleOf known a.phase d (point hour) (told known a.phase d a.travel before) begun z.from z.to)
    (λ z f same. record {
      order = f.order;
      later = f.later;
      all_known = f.all_known;
      is_begun = λ lt. let (u, is, at) = f.earlier lt in begun_open known a d (point hour) before begun u z.from e (ap (λ n. cycle_begun_of known (point hour) n before) (sym same) ∙ is) at;
    })
    (cycles_from known c.phases before seen) all)

-- the open cycle of one phase

abbrev HasNot : ℕ → Option OpenCycle → Type 0
HasNot p None = Unit {0}
HasNot p (Some y) = eqb y.phase p ≡ false

abbrev HasOnly : ℕ → Option OpenCycle → Type 0
HasOnly p None = Unit {0}
HasOnly p (Some y) = eqb y.phase p ≡ true

abbrev pub cycle_with : ℕ → List OpenCycle → Option OpenCycle
cycle_with p ys = find (λ y. eqb y.phase p) ys

find_skip : (p : ℕ) (o : Option OpenCycle) (rest : List OpenCycle) → HasNot p o → cycle_with p (cons_option o rest) ≡ cycle_with p rest
find_skip p None rest h = refl
find_skip p (Some y) rest h = rw h refl

find_here : (p : ℕ) (o : Option OpenCycle) (rest : List OpenCycle) → HasOnly p o → cycle_with p rest ≡ None → cycle_with p (cons_option o rest) ≡ o
find_here p None rest h e = e
find_here p (Some y) rest h e = rw h refl

open_not : (p n : ℕ) (o : Option CycleBegun) → eqb n p ≡ false → HasNot p (open_cycle_of n o)
open_not p n None h = tt
open_not p n (Some s) h = h

open_only : (p : ℕ) (o : Option CycleBegun) → HasOnly p (open_cycle_of p o)
open_only p None = tt
open_only p (Some s) = eq-eqb p p refl

module _ (has : ℕ → Bool) (known : ℕ → Bool) (t : ℕ) (all : List Row) (p : ℕ) where
  part_not : (v : Bool) (a : ℕ) → a ≢ p → HasNot p (open_cycle (cond v (Some (part_of known t all a)) None))
  unfolding open_cycle
  part_not true a ne = open_not p a (cycle_begun_of known t a all) (ne_eqb a p ne)
  part_not false a ne = tt

  find_past : (a n : ℕ) → p < a → cycle_with p (filter_map open_cycle (map (numbered has (part_of known t all)) (range_with_len a n))) ≡ None
  find_past a zero lt = refl
  find_past a (suc n) lt = find_skip p (open_cycle (numbered has (part_of known t all) a)) _ (part_not (has a) a (λ e. omega arith)) ∙ find_past (a + 1) n (omega arith)

  part_here : has p ≡ true → open_cycle (numbered has (part_of known t all) p) ≡ open_cycle_of p (cycle_begun_of known t p all)
  unfolding open_cycle
  part_here h = rw h refl

  find_in : (a n : ℕ) → a ≤ p → p < a + n → has p ≡ true → cycle_with p (filter_map open_cycle (map (numbered has (part_of known t all)) (range_with_len a n))) ≡ open_cycle_of p (cycle_begun_of known t p all)
  find_in a zero lo hi h = absurd (omega arith)
  find_in a (suc n) lo hi h = elim (cases_eq a p) [
    | inl e ↦ rw e (
        ap (λ o. cycle_with p (cons_option o (filter_map open_cycle (map (numbered has (part_of known t all)) (range_with_len (p + 1) n))))) (part_here h)
        ∙ find_here p (open_cycle_of p (cycle_begun_of known t p all)) (filter_map open_cycle (map (numbered has (part_of known t all)) (range_with_len (p + 1) n))) (open_only p (cycle_begun_of known t p all)) (find_past (p + 1) n (omega arith))
        )
    | inr ne ↦ find_skip p (open_cycle (numbered has (part_of known t all) a)) _ (part_not (has a) a ne) ∙ find_in (a + 1) n (omega arith) (omega arith) h
  ]

pub open_found : (known : ℕ → Bool) (c : Settings) (p : ℕ) (before : List Row) (hour : ℕ) (rows : List Row) (cuts : CutLists) → IsCut known c.phases before hour rows cuts → has_phase c.phases p ≡ true → cycle_with p cuts.open_cycles ≡ open_cycle_of p (cycle_begun_of known (point (hour + 1)) p (before ++ known_rows known rows))
open_found known c p before hour rows cuts cut has =
    let lt = has_room c.phases p has in
    ap (λ ys. cycle_with p ys) cut.open_cycles_are ∙ find_in (has_phase c.phases) known (point (hour + 1)) (before ++ known_rows known rows) p 0 (room c.phases) (omega arith) (omega arith) has

open_some : (p : ℕ) (o : Option CycleBegun) (y : OpenCycle) → open_cycle_of p o ≡ Some y → (s : CycleBegun) × (o ≡ Some s) × (y.from ≡ s.from.at)
open_some p None y e = absurd (cc)
open_some p (Some s) y e = (s, refl, cc)

open_cycle_is : (known : ℕ → Bool) (c : Settings) (a : Approach) (d : ℕ) (before : List Row) (hour : ℕ) (rows : List Row) (cuts : CutLists) (begun : Option Open) (o : Option OpenCycle) → All (λ x. x.at < point hour) before → AreOrdered (point hour) (point hour + 36000) rows → open_cycle_of a.phase (cycle_begun_of known (point (hour + 1)) a.phase (before ++ known_rows known rows)) ≡ o → begun ≡ open_with known (point hour) before a (Some d) → IfSome o (λ y. IsCycleOf known a.phase d (point hour) (told known a.phase d a.travel before) begun y.from (point (hour + 1)))
open_cycle_is known c a d before hour rows cuts begun None early ordered found e = tt
open_cycle_is known c a d before hour rows cuts begun (Some y) early ordered found e =
    let seen = known_rows known rows in
    let or = filter_ordered known (point hour) (point hour + 36000) (point hour) rows (omega arith) ordered in
    let (s, is, from) = open_some a.phase (cycle_begun_of known (point (hour + 1)) a.phase (before ++ seen)) y found in
    let high = All-weaker (λ (x : Row). x.at < point hour + 36000) (λ x. x.at ≤ point (hour + 1)) (λ x l. omega arith) seen (below_end (point hour) (point hour + 36000) seen or) in
    let b = begun_is known a.phase before seen (point hour) (point (hour + 1)) s (omega arith) early (from_first (point hour) (point hour + 36000) (point hour) seen (omega arith) or) high is in
    let order = b.order in
    record {
      order = omega arith;
      later = omega arith;
      all_known = λ k lo hi. b.all_known k (omega arith) hi;
      is_begun = λ lt. let (u, was, at) = b.earlier (omega arith) in begun_open known a d (point hour) before begun u y.from e was (at ∙ sym from);
    }

-- the cycle that has begun at the hour's end
pub open_is_cycle : (known : ℕ → Bool) (c : Settings) (a : Approach) (d : ℕ) (before : List Row) (hour : ℕ) (rows : List Row) (cuts : CutLists) (begun : Option Open) → All (λ x. x.at < point hour) before → AreOrdered (point hour) (point hour + 36000) rows → IsCut known c.phases before hour rows cuts → has_phase c.phases a.phase ≡ true → begun ≡ open_with known (point hour) before a (Some d) → IfSome (cycle_with a.phase cuts.open_cycles) (λ y. IsCycleOf known a.phase d (point hour) (told known a.phase d a.travel before) begun y.from (point (hour + 1)))
open_is_cycle known c a d before hour rows cuts begun early ordered cut has e = open_cycle_is known c a d before hour rows cuts begun (cycle_with a.phase cuts.open_cycles) early ordered (sym (open_found known c a.phase before hour rows cuts cut has)) e
