-- Arrivals and actuations, judged and in whole cycles.
use Rattle.std.proofs.Common.{◌≡◌, ◌∙◌, ◌↔◌, inl, inr, ℕ, ◌+◌, ◌<◌, ◌≤◌, Bool, true, false, cond, ◌||◌, List, [], ◌∷◌, ◌++◌, get_or, Option, Some, None, refl, ap, subst, arith}
use Rattle.std.specs.Prelude.{flat_map, nat_le, nat_lt}
use Rattle.std.specs.List.{filter}
use Rattle.std.proofs.lemmas.Bool.{and_parts, leb-true, ltb-true}
use Rattle.std.proofs.lemmas.Grind.{flat_map-append}
use Rattle.sig_base.specs.declared.values.Row.{Row}
use Rattle.sig_base.specs.HourRows.{RiseIn}
use Rattle.sig_base.proofs.Each.{Each}
use Rattle.reach.specs.Runs.{State}
use Rattle.hour_sweep.specs.Rows.{known_rows}
use Rattle.hour_sweep.specs.Hours.{point}
use Rattle.ring_config.specs.Settings.{Settings, spec_place}
use Rattle.ring_config.specs.declared.items.Approach.{Approach}
use Rattle.arrival_measures.specs.Arrivals.{is_on, ons_of}
use Rattle.arrival_measures.specs.declared.sums.ArrivalSum.{ArrivalSum}
use Rattle.arrival_measures.specs.Judged.{AllPass, AreJudged, CountOf, NonePass, OnlySomePass, is_green, is_red, phase_channel}
use Rattle.arrival_measures.specs.Faults.{arrivals_from, is_arrival, passing_from}
use Rattle.arrival_measures.specs.Travel.{arrivals_at}
use Rattle.arrival_measures.specs.Hours.{AreAllJudged, HasActuations, HasArrivals, counts_in, due_in, is_last, is_seen}
use Rattle.arrival_measures.specs.Points.{points_at, points_from}
use Rattle.arrival_measures.proofs.Travels.{passing-append}
use Rattle.hour_work.proofs.PlacedLaws.{each_weaker}

-- ---- rows

pub each_kept : {X : Type 0} (P : X → Type 0) (v : Bool) (x : X) (xs : List X) → (v ≡ true → P x) → Each P xs → Each P (cond v (x ∷ xs) xs)
each_kept P true x xs p rest = (p refl, rest)
each_kept P false x xs p rest = rest

pub each_filter : {X : Type 0} (P : X → Type 0) (f : X → Bool) (xs : List X) → Each P xs → Each P (filter f xs)
each_filter P f [] h = tt
each_filter P f (x ∷ xs) h = each_kept P (f x) x (filter f xs) (λ _. h.0) (each_filter P f xs h.1)

-- the row is at a known tenth from a up to b
pub record IsSeenFrom (known : ℕ → Bool) (a b : ℕ) (x : Row) : Type 0 where
  pub low : a ≤ x.at
  pub high : x.at < b
  pub is_known : known x.at ≡ true

pub each_known : (known : ℕ → Bool) (rows : List Row) → Each (λ z. known z.at ≡ true) (known_rows known rows)
each_known known [] = tt
each_known known (x ∷ xs) = each_kept (λ z. known z.at ≡ true) (known x.at) x (known_rows known xs) (λ e. e) (each_known known xs)

pub known_within : (known : ℕ → Bool) (a b : ℕ) (rows : List Row) → RiseIn a b rows → Each (IsSeenFrom known a b) (known_rows known rows)
known_within known a b [] h = tt
known_within known a b (x ∷ xs) h =
    let low : a ≤ x.at = h.0 in
    let rest = each_weaker (IsSeenFrom known x.at b) (IsSeenFrom known a b) (known_rows known xs) (λ z s. let l = s.low in record { low = omega arith; high = s.high; is_known = s.is_known }) (known_within known x.at b xs h.2) in
    each_kept (IsSeenFrom known a b) (known x.at) x (known_rows known xs) (λ e. record { low = low; high = h.1; is_known = e }) rest

-- the row is at a known tenth of the hour
abbrev pub IsSeenIn : (ℕ → Bool) → ℕ → Row → Type 0
IsSeenIn known hour x = IsSeenFrom known (point hour) (point (hour + 1)) x

each_passing : (P : Row → Type 0) (test : List Row → Row → Bool) (before xs : List Row) → Each P xs → Each P (passing_from test before xs)
each_passing P test before [] h = tt
each_passing P test before (x ∷ xs) h = each_kept P (test before x) x (passing_from test (before ++ x ∷ []) xs) (λ _. h.0) (each_passing P test (before ++ x ∷ []) xs h.1)

each_both : {X : Type 0} (P : X → Type 0) (f : X → Bool) (v : Bool) (x : X) (ys : List X) → (v ≡ true → f x ≡ true → P x) → Each P (filter f ys) → Each P (filter f (cond v (x ∷ ys) ys))
each_both P f true x ys p rest = each_kept P (f x) x (filter f ys) (p refl) rest
each_both P f false x ys p rest = rest

-- the arrivals that count in the hour and are seen
due_seen : (known : ℕ → Bool) (c : Settings) (hour : ℕ) (xs : List Row) → Each (IsSeenIn known hour) (filter (is_seen known hour) (filter (counts_in c hour) xs))
due_seen known c hour [] = tt
due_seen known c hour (x ∷ xs) =
    each_both (IsSeenIn known hour) (is_seen known hour) (counts_in c hour x) x (filter (counts_in c hour) xs) (λ q f.
    let seen = and_parts (known x.at) (nat_lt x.at (point (hour + 1))) f in
    record {
      low = leb-true (point hour) x.at (and_parts (nat_le (point hour) x.at) (is_last c hour || nat_lt x.at (point (hour + 1))) q).0;
      high = ltb-true x.at (point (hour + 1)) seen.1;
      is_known = seen.0;
    }) (due_seen known c hour xs)

-- the points of two parts of a log
pub points_add : (known : ℕ → Bool) (c : Settings) (p : ℕ) (before rows : List Row) → points_from known c p [] (before ++ rows) ≡ points_from known c p [] before ++ points_from known c p before rows
points_add known c p before rows =
    ap (λ zs. flat_map (points_at p 0 c.approaches) zs) (passing-append (is_arrival known) [] before rows)
    ∙ flat_map-append (points_at p 0 c.approaches) (arrivals_from known [] before) (arrivals_from known before rows)

-- ---- the same colours

pub record HaveSameColours (P Q : State → Type 0) : Type 0 where
  pub to : (v : State) → P v → (w : State) × Q w × (w.colour ≡ v.colour)
  pub back : (w : State) → Q w → (v : State) × P v × (v.colour ≡ w.colour)

turned : (P Q : State → Type 0) → HaveSameColours P Q → HaveSameColours Q P
turned P Q same = record { to = same.back; back = same.to }

all_to : (test : ℕ → Bool) (P Q : State → Type 0) → HaveSameColours P Q → AllPass test P → AllPass test Q
all_to test P Q same h w q = let (v, p, e) = same.back w q in subst (λ (c : ℕ). test c ≡ true) e (h v p)

none_to : (test : ℕ → Bool) (P Q : State → Type 0) → HaveSameColours P Q → NonePass test P → NonePass test Q
none_to test P Q same h w q = let (v, p, e) = same.back w q in subst (λ (c : ℕ). test c ≡ false) e (h v p)

some_to : (test : ℕ → Bool) (P Q : State → Type 0) → HaveSameColours P Q → OnlySomePass test P → OnlySomePass test Q
some_to test P Q same (not_all, not_none) = (λ all. not_all (all_to test Q P (turned P Q same) all), λ none. not_none (none_to test Q P (turned P Q same) none))

count_as : {X : Type 0} (P Q : X → Type 0) (xs : List X) (n : ℕ) → Each (λ x. P x ↔ Q x) xs → CountOf P xs n → CountOf Q xs n
unfolding CountOf
count_as P Q [] n same h = h
count_as P Q (x ∷ xs) n same (inl (p, (m, e, rest))) = inl (same.0.0 p, (m, e, count_as P Q xs m same.1 rest))
count_as P Q (x ∷ xs) n same (inr (never, rest)) = inr (λ q. never (same.0.1 q), count_as P Q xs n same.1 rest)

module _ (M N : ℕ → ℕ → State → Type 0) (known : ℕ → Bool) (c : Settings) (hour : ℕ) (same : (p i : ℕ) → spec_place c.specs (phase_channel p) ≡ Some i → (x : Row) → IsSeenIn known hour x → HaveSameColours (M i x.at) (N i x.at)) where
  judged_as : (p : ℕ) (test : ℕ → Bool) (ons : List Row) (all none some : ℕ) → Each (IsSeenIn known hour) ons → AreJudged M c p test ons all none some → AreJudged N c p test ons all none some
  judged_as p test ons all none some seen h =
      let i = h.place in
      let each = each_weaker (IsSeenIn known hour) (λ (x : Row). HaveSameColours (M i x.at) (N i x.at)) ons (same p i h.is_place) seen in
      record {
        place = i;
        is_place = h.is_place;
        all_pass = count_as (λ x. AllPass test (M i x.at)) (λ x. AllPass test (N i x.at)) ons all
            (each_weaker (λ x. HaveSameColours (M i x.at) (N i x.at)) (λ x. AllPass test (M i x.at) ↔ AllPass test (N i x.at)) ons (λ x s. (all_to test (M i x.at) (N i x.at) s, all_to test (N i x.at) (M i x.at) (turned (M i x.at) (N i x.at) s))) each) h.all_pass;
        none_pass = count_as (λ x. NonePass test (M i x.at)) (λ x. NonePass test (N i x.at)) ons none
            (each_weaker (λ x. HaveSameColours (M i x.at) (N i x.at)) (λ x. NonePass test (M i x.at) ↔ NonePass test (N i x.at)) ons (λ x s. (none_to test (M i x.at) (N i x.at) s, none_to test (N i x.at) (M i x.at) (turned (M i x.at) (N i x.at) s))) each) h.none_pass;
        some_pass = count_as (λ x. OnlySomePass test (M i x.at)) (λ x. OnlySomePass test (N i x.at)) ons some
            (each_weaker (λ x. HaveSameColours (M i x.at) (N i x.at)) (λ x. OnlySomePass test (M i x.at) ↔ OnlySomePass test (N i x.at)) ons (λ x s. (some_to test (M i x.at) (N i x.at) s, some_to test (N i x.at) (M i x.at) (turned (M i x.at) (N i x.at) s))) each) h.some_pass;
      }

  arrivals_as : (a : Approach) (before rows : List Row) (s : ArrivalSum) (d : Option ℕ) → HasArrivals M known c a before rows hour s d → HasArrivals N known c a before rows hour s d
  arrivals_as a before rows s None h = h
  arrivals_as a before rows s (Some d) h = record {
    arrivals = h.arrivals;
    judged = judged_as a.phase is_green (filter (is_seen known hour) (due_in known c hour d a.travel (before ++ rows))) s.green s.not_green s.undecided (due_seen known c hour (arrivals_at known d a.travel (before ++ rows))) h.judged;
    unseen = h.unseen;
    fault = h.fault;
  }

  actuations_as : (a : Approach) (before rows : List Row) (s : ArrivalSum) (d : Option ℕ) → Each (IsSeenIn known hour) rows → HasActuations M known c a before rows s d → HasActuations N known c a before rows s d
  actuations_as a before rows s None seen h = h
  actuations_as a before rows s (Some d) seen h = record {
    actuations = h.actuations;
    judged = judged_as a.phase is_red (ons_of d (arrivals_from known before rows)) s.red s.not_red s.red_undecided
        (each_filter (IsSeenIn known hour) (is_on d) (arrivals_from known before rows) (each_passing (IsSeenIn known hour) (is_arrival known) before rows seen)) h.judged;
    fault = h.fault;
  }

  -- what is judged by one kind of states is judged so by another of the same colours
  pub all_judged_as : (before rows : List Row) (sums : List ArrivalSum) → Each (IsSeenIn known hour) rows → AreAllJudged M known c before rows hour sums → AreAllJudged N known c before rows hour sums
  all_judged_as before rows sums seen h = record {
    size = h.size;
    each = λ i a s lt.
        let here = h.each i a s lt in
        let b = get_or c.approaches i a in
        let z = get_or sums i s in
        record { arrivals = arrivals_as b before rows z b.advance here.arrivals; actuations = actuations_as b before rows z b.stop_bar seen here.actuations };
  }
