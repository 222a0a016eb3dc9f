-- How long channels were in each state, by a view of the hour.
use Rattle.std.specs.Prelude.{ℕ, zero, suc, ◌≡◌, ◌<◌, ◌⊎◌, Bool, true, false, List, [], ◌∷◌, ◌++◌, Option, Some, None, length, slice_index_or}
use Rattle.sig_base.specs.declared.values.Row.{Row}
use Rattle.event_codes.specs.declared.channels.Channel.{Channel}
use Rattle.event_codes.specs.declared.channels.Kind.TheVariants.{PedDetector, PreemptInput, PreemptService, Coordination}
use Rattle.gap_map.specs.declared.stretch.Stretch.{Stretch}
use Rattle.board.specs.Logs.{HourLog, first_tenth}
use Rattle.board.specs.Places.{IsViewOf}
use Rattle.ring_config.specs.Settings.{Settings, spec_place}
use Rattle.detector_state.specs.declared.state_asked.Asked.{Asked}
use Rattle.detector_state.specs.declared.state_asked.Asked.TheVariants.{Colour, NoneOf}
use Rattle.detector_state.specs.States.{IsCount, MeetsAt}
use Rattle.other_measures.specs.declared.states.Seen.{Seen}
use Rattle.other_measures.specs.declared.sums.PedSum.{PedSum}
use Rattle.other_measures.specs.declared.sums.PreemptSum.{PreemptSum}
use Rattle.other_measures.specs.declared.sums.CoordSum.{CoordSum}

-- the view is one of this hour, with the channels of the configuration
pub record IsSeen (c : Settings) (view : HourLog) (rows : List Row) (ss : List Stretch) (log : HourLog) : Type 0 where
  pub is_view : IsViewOf log view
  pub same_specs : log.specs ≡ c.specs
  pub same_rows : log.rows ≡ rows
  pub same_stretches : log.stretches ≡ ss

-- what is seen is of this hour, which has this first tenth and the channels of the configuration
pub record IsSeenOf (c : Settings) (s : Seen) (log : HourLog) (first : ℕ) : Type 0 where
  pub is_view : IsViewOf log s.view.now
  pub same_specs : log.specs ≡ c.specs
  pub from : s.from ≡ first
  pub is_first : first ≡ first_tenth log.hour

-- the same, or nothing is seen, of an hour with any first tenth
abbrev pub IsWhatIsSeen : Settings → Option Seen → Option HourLog → ℕ → Type 0
IsWhatIsSeen c (Some s) (Some log) first = IsSeenOf c s log first
IsWhatIsSeen c None None first = Unit {0}
IsWhatIsSeen c _ _ first = ⊥

-- what is asked of the channel with a place is met at a tenth of what is seen; where nothing is seen, nothing is met
abbrev pub MetBy : Option HourLog → ℕ → Asked → ℕ → Type 0
MetBy (Some log) = MeetsAt log
MetBy None = λ _ _ _. ⊥

-- the channel is tracked, and of the tenths of an hour from `from` on it meets what is asked at k; At says of a channel's place, of what is asked and of a tenth whether it is met there
abbrev pub HasTenths : (ℕ → Asked → ℕ → Type 0) → ℕ → Settings → Channel → Asked → ℕ → Type 0
HasTenths At from c channel asked k = (i : ℕ) × (spec_place c.specs channel ≡ Some i) × IsCount (At i asked) from 36000 k

-- the detector of pedestrian signal p, as a channel
abbrev pub ped_detector : ℕ → Channel
ped_detector p = record { kind = PedDetector; number = p }

-- the call input of preempt p, as a channel
abbrev pub input : ℕ → Channel
input p = record { kind = PreemptInput; number = p }

-- the service of preempt p, as a channel
abbrev pub service : ℕ → Channel
service p = record { kind = PreemptService; number = p }

-- the coordination, as a channel
abbrev pub coordination : Channel
coordination = record { kind = Coordination; number = 0 }

-- how many tenths of the hour the detector of pedestrian signal p was on in all histories, and at how many it was neither on nor off in all of them
pub record HasDetector (At : ℕ → Asked → ℕ → Type 0) (from : ℕ) (c : Settings) (p : ℕ) (s : PedSum) : Type 0 where
  pub on : HasTenths At from c (ped_detector p) (Colour 1) s.detector_on
  pub undecided : HasTenths At from c (ped_detector p) (NoneOf 2) s.detector_undecided

-- how many tenths of the hour, in all histories, the call input of preempt p was on and its service was in each of its four states, and at how many each of the two was in no state in all of them
pub record HasStates (At : ℕ → Asked → ℕ → Type 0) (from : ℕ) (c : Settings) (p : ℕ) (s : PreemptSum) : Type 0 where
  pub input_on : HasTenths At from c (input p) (Colour 1) s.input_on
  pub input_undecided : HasTenths At from c (input p) (NoneOf 2) s.input_undecided
  pub rest : HasTenths At from c (service p) (Colour 0) s.rest
  pub entry : HasTenths At from c (service p) (Colour 1) s.entry
  pub track : HasTenths At from c (service p) (Colour 2) s.track
  pub dwell : HasTenths At from c (service p) (Colour 3) s.dwell
  pub undecided : HasTenths At from c (service p) (NoneOf 4) s.undecided

-- how many tenths of the hour the coordination was in each of its seven states in all histories, and at how many it was in none of them in all
pub record HasCoordination (At : ℕ → Asked → ℕ → Type 0) (from : ℕ) (c : Settings) (s : CoordSum) : Type 0 where
  pub size : length s.tenths ≡ 7
  pub tenths : (q : ℕ) → q < 7 → HasTenths At from c coordination (Colour q) (slice_index_or s.tenths q 0)
  pub undecided : HasTenths At from c coordination (NoneOf 7) s.undecided

-- by number: of each number below n that there is, an element that is its own
unfoldable pub EachOf : {A : Type 0} → (ℕ → Bool) → (ℕ → A → Type 0) → ℕ → List A → Type 0
EachOf has Is zero xs = xs ≡ []
EachOf {A = A} has Is (suc n) xs = ((has n ≡ true) × ((ys : List A) × (y : A) × EachOf has Is n ys × Is n y × (xs ≡ ys ++ y ∷ []))) ⊎ ((has n ≡ false) × EachOf has Is n xs)
