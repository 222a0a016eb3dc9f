-- The numbers of approaches in an hour.
use Rattle.std.proofs.Common.{◌≡◌, ◌∙◌, ℕ, ◌++◌, Bool, true, Option, Some, None, List, [], ◌∷◌, length, get_or, refl, ap}
use Rattle.std.specs.Prelude.{filter, map, not}
use Rattle.sig_base.specs.declared.values.Row.{Row}
use Rattle.sig_base.specs.Numbers.{has_phase}
use Rattle.reach.specs.Runs.{State}
use Rattle.hour_sweep.specs.Sums.{capped}
use Rattle.ring_config.specs.Settings.{Settings}
use Rattle.ring_config.specs.Sound.{IsSound}
use Rattle.ring_config.specs.declared.items.Approach.{Approach}
use Rattle.stop_bar.specs.Lists.{Each}
use Rattle.stop_bar.proofs.Common.{each_long}
use Rattle.arrival_measures.specs.Arrivals.{ons_of}
use Rattle.arrival_measures.specs.declared.sums.ArrivalSum.{ArrivalSum}
use Rattle.arrival_measures.specs.Faults.{arrivals_from, faults_from}
use Rattle.arrival_measures.specs.Judged.{AllPass, AreJudged, NonePass, OnlySomePass, is_green, is_red, phase_channel}
use Rattle.arrival_measures.specs.Cycles.{CycleNumbers}
use Rattle.arrival_measures.specs.Hours.{AreAllJudged, HasActuations, HasArrivals, HasJudged, HaveCycles, cycle_numbers, cycle_part, due_in, is_seen, no_sum}
use Rattle.transcript_laws.specs.Exists.{NotNone}
use Rattle.transcript_laws.proofs.Chance.{some, then, with}
use Rattle.transcript_laws.proofs.Counted.{count_of, each_listed, each_there, place_of}

-- the arrivals of one, the actuations of another, and numbers of cycles
abbrev joined : ArrivalSum → ArrivalSum → CycleNumbers → ArrivalSum
joined s t n = record s { cycle_arrivals = n.arrivals; cycle_green = n.green; green_tenths = n.green_tenths; cycle_tenths = n.tenths; actuations = t.actuations; red = t.red; not_red = t.not_red; red_undecided = t.red_undecided; red_fault = t.red_fault }

module _ (May : ℕ → ℕ → State → Type 0) (known : ℕ → Bool) (c : Settings) (before rows : List Row) (hour : ℕ) (sound : IsSound c) where
  -- rows are judged by what a configured phase shows
  pub judged_exist : (p : ℕ) (test : ℕ → Bool) (ons : List Row) → has_phase c.phases p ≡ true → NotNone ((all : ℕ) × (none : ℕ) × (some : ℕ) × AreJudged May c p test ons all none some)
  judged_exist p test ons has =
      let (place, at) = place_of c (phase_channel p) sound has in
      then (count_of (λ (x : Row). AllPass test (May place x.at)) ons) (λ (all, are_all).
      then (count_of (λ (x : Row). NonePass test (May place x.at)) ons) (λ (none, are_none).
      with (count_of (λ (x : Row). OnlySomePass test (May place x.at)) ons) (λ (few, are_few).
      (all, none, few, record { place = place; is_place = at; all_pass = are_all; none_pass = are_none; some_pass = are_few }))))

  arrivals_exist : (a : Approach) (o : Option ℕ) → has_phase c.phases a.phase ≡ true → NotNone ((s : ArrivalSum) × HasArrivals May known c a before rows hour s o)
  arrivals_exist a None has = some (no_sum, (refl, refl, refl, refl, refl, refl))
  arrivals_exist a (Some d) has =
      let due = due_in known c hour d a.travel (before ++ rows) in
      with (judged_exist a.phase is_green (filter (is_seen known hour) due) has) (λ (all, none, few, are). (
        record no_sum {
          arrivals = capped (length due);
          green = all;
          not_green = none;
          undecided = few;
          unseen = capped (length (filter (λ x. not (is_seen known hour x)) due));
          fault = capped (length (ons_of d (faults_from known before rows)));
        },
        record { arrivals = refl; judged = are; unseen = refl; fault = refl },
      ))

  actuations_exist : (a : Approach) (o : Option ℕ) → has_phase c.phases a.phase ≡ true → NotNone ((s : ArrivalSum) × HasActuations May known c a before rows s o)
  actuations_exist a None has = some (no_sum, (refl, refl, refl, refl, refl))
  actuations_exist a (Some d) has =
      let ons = ons_of d (arrivals_from known before rows) in
      with (judged_exist a.phase is_red ons has) (λ (all, none, few, are). (
        record no_sum {
          actuations = capped (length ons);
          red = all;
          not_red = none;
          red_undecided = few;
          red_fault = capped (length (ons_of d (faults_from known before rows)));
        },
        record { actuations = refl; judged = are; fault = refl },
      ))

  arrivals_stay : (a : Approach) (s t : ArrivalSum) (n : CycleNumbers) (o : Option ℕ) → HasArrivals May known c a before rows hour s o → HasArrivals May known c a before rows hour (joined s t n) o
  arrivals_stay a s t n None h = h
  arrivals_stay a s t n (Some d) h = record { arrivals = h.arrivals; judged = h.judged; unseen = h.unseen; fault = h.fault }

  actuations_stay : (a : Approach) (s t : ArrivalSum) (n : CycleNumbers) (o : Option ℕ) → HasActuations May known c a before rows t o → HasActuations May known c a before rows (joined s t n) o
  actuations_stay a s t n None h = h
  actuations_stay a s t n (Some d) h = record { actuations = h.actuations; judged = h.judged; fault = h.fault }

  record IsSumOf (a : Approach) (s : ArrivalSum) : Type 0 where
    pub judged : HasJudged May known c before rows hour a s
    pub cycles : cycle_part s ≡ cycle_numbers known c before rows a a.advance

  sum_exists : (a : Approach) → has_phase c.phases a.phase ≡ true → NotNone ((s : ArrivalSum) × IsSumOf a s)
  sum_exists a has =
      let n = cycle_numbers known c before rows a a.advance in
      then (arrivals_exist a a.advance has) (λ (s, is).
      with (actuations_exist a a.stop_bar has) (λ (t, are). (
        joined s t n,
        record { judged = record { arrivals = arrivals_stay a s t n a.advance is; actuations = actuations_stay a s t n a.stop_bar are }; cycles = refl },
      )))

  all_cycles : (xs : List Approach) (sums : List ArrivalSum) → Each IsSumOf xs sums → map cycle_part sums ≡ map (λ a. cycle_numbers known c before rows a a.advance) xs
  all_cycles [] [] h = refl
  all_cycles [] (s ∷ sums) h = absurd h
  all_cycles (a ∷ xs) [] h = absurd h
  all_cycles (a ∷ xs) (s ∷ sums) h =
      ap (λ (n : CycleNumbers). n ∷ map cycle_part sums) h.0.cycles ∙ ap (λ (ns : List CycleNumbers). cycle_numbers known c before rows a a.advance ∷ ns) (all_cycles xs sums h.1)

  -- the judged rows of an hour, and its whole cycles
  pub arrival_sums_exist : NotNone ((sums : List ArrivalSum) × AreAllJudged May known c before rows hour sums × HaveCycles known c before rows sums)
  arrival_sums_exist =
      with (each_listed IsSumOf c.approaches (λ i d lt. sum_exists (get_or c.approaches i d) (sound.approaches i d lt).phase)) (λ (sums, are). (
        sums,
        record {
          size = each_long IsSumOf c.approaches sums are;
          each = λ i a s lt. (each_there IsSumOf c.approaches sums i a s are lt).judged;
        },
        all_cycles c.approaches sums are,
      ))
