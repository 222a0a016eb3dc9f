-- How many tenths of a part of a log pedestrian detectors, preempts and the coordination were in each state.
use Rattle.std.specs.Prelude.{ℕ, ◌≡◌, ◌<◌, true, List, Some, length, slice_index_or}
use Rattle.event_codes.specs.declared.channels.Channel.{Channel}
use Rattle.event_codes.specs.declared.channels.Kind.TheVariants.{Coordination, PedDetector, PreemptInput, PreemptService}
use Rattle.board.specs.Logs.{first_tenth}
use Rattle.hour_store.specs.Store.{IsStore, Store}
use Rattle.ring_config.specs.Settings.{Settings, spec_place}
use Rattle.sig_base.specs.Numbers.{has_number}
use Rattle.detector_state.specs.declared.state_asked.Asked.{Asked}
use Rattle.detector_state.specs.declared.state_asked.Asked.TheVariants.{Colour, NoneOf}
use Rattle.detector_state.specs.Ranges.{Counts}
use Rattle.other_measures.specs.declared.sums.CoordSum.{CoordSum}
use Rattle.other_measures.specs.declared.sums.PedSum.{PedSum}
use Rattle.other_measures.specs.declared.sums.PreemptSum.{PreemptSum}
use Rattle.other_measures.specs.Hours.{OtherNumbers}
use Rattle.other_measures.specs.States.{EachOf}
use Rattle.hour_work.specs.Measures.{MeetsIn}
use Rattle.hour_work.specs.Numbers.{Numbers, total_of}
use Rattle.hour_work.specs.Reports.{IsReport}

-- the channel is tracked, and of the tenths from `from` up to `to` it meets what is asked at k; At says of a channel's place, of what is asked and of a tenth whether it is met there
abbrev pub HasTenthsBetween : (ℕ → Asked → ℕ → Type 0) → ℕ → ℕ → Settings → Channel → Asked → ℕ → Type 0
HasTenthsBetween At from to c channel asked k = (i : ℕ) × (spec_place c.specs channel ≡ Some i) × Counts (At i asked) from to k

-- the tenths of the detector: Off is colour 0, On colour 1
pub record HasDetectorBetween (At : ℕ → Asked → ℕ → Type 0) (from to : ℕ) (c : Settings) (p : ℕ) (s : PedSum) : Type 0 where
  pub on : HasTenthsBetween At from to c (record { kind = PedDetector; number = p }) (Colour 1) s.detector_on
  pub undecided : HasTenthsBetween At from to c (record { kind = PedDetector; number = p }) (NoneOf 2) s.detector_undecided

-- the tenths of the call input, and of the service: Rest is colour 0, Entry 1, Track 2, Dwell 3
pub record HasStatesBetween (At : ℕ → Asked → ℕ → Type 0) (from to : ℕ) (c : Settings) (p : ℕ) (s : PreemptSum) : Type 0 where
  pub input_on : HasTenthsBetween At from to c (record { kind = PreemptInput; number = p }) (Colour 1) s.input_on
  pub input_undecided : HasTenthsBetween At from to c (record { kind = PreemptInput; number = p }) (NoneOf 2) s.input_undecided
  pub rest : HasTenthsBetween At from to c (record { kind = PreemptService; number = p }) (Colour 0) s.rest
  pub entry : HasTenthsBetween At from to c (record { kind = PreemptService; number = p }) (Colour 1) s.entry
  pub track : HasTenthsBetween At from to c (record { kind = PreemptService; number = p }) (Colour 2) s.track
  pub dwell : HasTenthsBetween At from to c (record { kind = PreemptService; number = p }) (Colour 3) s.dwell
  pub undecided : HasTenthsBetween At from to c (record { kind = PreemptService; number = p }) (NoneOf 4) s.undecided

-- the tenths of the coordination, in its seven states
pub record HasCoordinationBetween (At : ℕ → Asked → ℕ → Type 0) (from to : ℕ) (c : Settings) (s : CoordSum) : Type 0 where
  pub size : length s.tenths ≡ 7
  pub tenths : (q : ℕ) → q < 7 → HasTenthsBetween At from to c (record { kind = Coordination; number = 0 }) (Colour q) (slice_index_or s.tenths q 0)
  pub undecided : HasTenthsBetween At from to c (record { kind = Coordination; number = 0 }) (NoneOf 7) s.undecided

-- the tenths of states from `from` up to `to`, of pedestrian detectors, preempts and the coordination
pub record AreStatesBetween (At : ℕ → Asked → ℕ → Type 0) (from to : ℕ) (c : Settings) (s : OtherNumbers) : Type 0 where
  pub peds : EachOf (has_number c.peds) (HasDetectorBetween At from to c) 17 s.peds
  pub preempts : EachOf (has_number c.preempts) (HasStatesBetween At from to c) 17 s.preempts
  pub coordination : c.coordination ≡ true → HasCoordinationBetween At from to c s.coordination

-- the totals are those of all tenths of the store
abbrev pub StateTotals : Type 0
StateTotals = (c : Settings) (s : Store) (all : List Numbers) → IsStore s → IsReport c s all → AreStatesBetween (MeetsIn c s) 0 (first_tenth (length s.hours)) c (total_of all).others
