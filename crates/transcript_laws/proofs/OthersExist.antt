-- The numbers of pedestrian signals, preempts and coordination in an hour.
use Rattle.std.proofs.Common.{◌≡◌, inl, inr, ℕ, Bool, true, false, List, refl}
use Rattle.std.proofs.lemmas.Bool.{cases_Bool}
use Rattle.sig_base.specs.declared.values.Row.{Row}
use Rattle.sig_base.specs.Numbers.{has_number}
use Rattle.event_codes.specs.declared.channels.Channel.{Channel}
use Rattle.ring_config.specs.Settings.{Settings, is_tracked}
use Rattle.ring_config.specs.Sound.{IsSound}
use Rattle.detector_state.specs.declared.state_asked.Asked.{Asked}
use Rattle.detector_state.specs.declared.state_asked.Asked.TheVariants.{Colour, NoneOf}
use Rattle.other_measures.specs.declared.sums.PedSum.{PedSum}
use Rattle.other_measures.specs.declared.sums.PreemptSum.{PreemptSum}
use Rattle.other_measures.specs.declared.sums.CoordSum.{CoordSum}
use Rattle.other_measures.specs.Sums.{delays_of, events_of, ped_sum_of, preempt_sum_of}
use Rattle.other_measures.specs.States.{HasCoordination, HasDetector, HasStates, HasTenths, coordination, input, ped_detector, service}
use Rattle.other_measures.specs.Hours.{AreNumbers, AreStates, HasDelays, HasEvents, HasRows, OtherNumbers, delays_from, events_from, no_coordination, rows_with, with_detector}
use Rattle.transcript_laws.specs.Exists.{NotNone}
use Rattle.transcript_laws.proofs.Chance.{listed, some, then, with}
use Rattle.transcript_laws.proofs.Counted.{counted, each_numbered, each_weaker, place_of}

-- a tracked channel meets what is asked at so many tenths
pub tenths_exist : (At : ℕ → Asked → ℕ → Type 0) (from : ℕ) (c : Settings) → IsSound c → (channel : Channel) (asked : Asked) → is_tracked c channel ≡ true → NotNone ((k : ℕ) × HasTenths At from c channel asked k)
tenths_exist At from c sound channel asked has =
    let (i, at) = place_of c channel sound has in
    with (counted (At i asked) 36000 from) (λ (k, is). (k, (i, at, is)))

module _ (known : ℕ → Bool) (before rows : List Row) (At : ℕ → Asked → ℕ → Type 0) (from : ℕ) (c : Settings) (sound : IsSound c) where
  tenths : (channel : Channel) (asked : Asked) → is_tracked c channel ≡ true → NotNone ((k : ℕ) × HasTenths At from c channel asked k)
  tenths channel asked has = tenths_exist At from c sound channel asked has

  abbrev IsPedOf : ℕ → PedSum → Type 0
  IsPedOf p s = HasDelays (delays_from known c before rows) p s × HasDetector At from c p s

  ped_exists : (p : ℕ) → has_number c.peds p ≡ true → NotNone ((s : PedSum) × IsPedOf p s)
  ped_exists p has =
      then (tenths (ped_detector p) (Colour 1) has) (λ (on, is_on).
      with (tenths (ped_detector p) (NoneOf 2) has) (λ (undecided, is_undecided).
      (with_detector (ped_sum_of (delays_of p (delays_from known c before rows))) on undecided, (refl, record { on = is_on; undecided = is_undecided }))))

  abbrev IsPreemptOf : ℕ → PreemptSum → Type 0
  IsPreemptOf p s = HasEvents (events_from known c before rows) p s × HasStates At from c p s

  preempt_exists : (p : ℕ) → has_number c.preempts p ≡ true → NotNone ((s : PreemptSum) × IsPreemptOf p s)
  preempt_exists p has =
      then (tenths (input p) (Colour 1) has) (λ (input_on, is_on).
      then (tenths (input p) (NoneOf 2) has) (λ (input_undecided, is_none).
      then (tenths (service p) (Colour 0) has) (λ (rest, is_rest).
      then (tenths (service p) (Colour 1) has) (λ (entry, is_entry).
      then (tenths (service p) (Colour 2) has) (λ (track, is_track).
      then (tenths (service p) (Colour 3) has) (λ (dwell, is_dwell).
      with (tenths (service p) (NoneOf 4) has) (λ (undecided, is_undecided). (
        record (preempt_sum_of (events_of p (events_from known c before rows))) { input_on = input_on; input_undecided = input_undecided; rest = rest; entry = entry; track = track; dwell = dwell; undecided = undecided },
        (refl, record { input_on = is_on; input_undecided = is_none; rest = is_rest; entry = is_entry; track = is_track; dwell = is_dwell; undecided = is_undecided }),
      ))))))))

  record IsCoordinationOf (s : CoordSum) : Type 0 where
    pub has_rows : c.coordination ≡ true → HasRows rows s
    pub off : c.coordination ≡ false → s ≡ no_coordination
    pub has_states : c.coordination ≡ true → HasCoordination At from c s

  coordination_on : c.coordination ≡ true → NotNone ((s : CoordSum) × IsCoordinationOf s)
  coordination_on on =
      let has : is_tracked c coordination ≡ true = rw on refl in
      then (listed (λ q k. HasTenths At from c coordination (Colour q) k) 7 (λ q lt. tenths coordination (Colour q) has)) (λ (all, size, at).
      with (tenths coordination (NoneOf 7) has) (λ (undecided, is_undecided). (
        record { tenths = all; undecided = undecided; patterns = rows_with 131 rows; cycle_changes = rows_with 132 rows; yields = rows_with 151 rows; begins = rows_with 152 rows },
        record {
          has_rows = λ e. record { patterns = refl; cycle_changes = refl; yields = refl; begins = refl };
          off = λ e. absurd (cc);
          has_states = λ e. record { size = size; tenths = λ q lt. at q 0 lt; undecided = is_undecided };
        },
      )))

  coordination_exists : NotNone ((s : CoordSum) × IsCoordinationOf s)
  coordination_exists = elim (cases_Bool c.coordination) [
    | inl on ↦ coordination_on on
    | inr off ↦ some (no_coordination, record { has_rows = λ e. absurd (cc); off = λ e. refl; has_states = λ e. absurd (cc) })
  ]

  -- the numbers of an hour's rows, and the tenths of its states
  pub others_exist : NotNone ((s : OtherNumbers) × AreNumbers known c before rows s × AreStates At from c s)
  others_exist =
      then (each_numbered (has_number c.peds) IsPedOf ped_exists 17) (λ (peds, are_peds).
      then (each_numbered (has_number c.preempts) IsPreemptOf preempt_exists 17) (λ (preempts, are_preempts).
      with (coordination_exists) (λ (coordination, is). (
        record { peds = peds; preempts = preempts; coordination = coordination },
        record {
          peds = each_weaker (has_number c.peds) IsPedOf (HasDelays (delays_from known c before rows)) (λ p y h. h.0) 17 peds are_peds;
          preempts = each_weaker (has_number c.preempts) IsPreemptOf (HasEvents (events_from known c before rows)) (λ p y h. h.0) 17 preempts are_preempts;
          coordination = is.has_rows;
          off = is.off;
        },
        record {
          peds = each_weaker (has_number c.peds) IsPedOf (HasDetector At from c) (λ p y h. h.1) 17 peds are_peds;
          preempts = each_weaker (has_number c.preempts) IsPreemptOf (HasStates At from c) (λ p y h. h.1) 17 preempts are_preempts;
          coordination = is.has_states;
        },
      ))))
