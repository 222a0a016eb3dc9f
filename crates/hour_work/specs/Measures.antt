-- What is measured of a store in each hour, by all its known rows.
use Rattle.std.specs.Prelude.{ℕ, zero, suc, ◌≡◌, List, [], ◌++◌, true, ◌↔◌, ◌<◌, ◌≤◌, Bool, Some, length, slice_index_or}
use Rattle.hour_store.specs.Store.{Store, is_known, IsStore}
use Rattle.board.specs.Logs.{first_tenth}
use Rattle.ring_config.specs.Settings.{Settings, spec_place}
use Rattle.signal_log.specs.Log.{log_of, HasHistory}
use Rattle.signal_log.specs.States.{MayBeAtEndOf}
use Rattle.detector_state.specs.declared.state_asked.Asked.{Asked}
use Rattle.detector_state.specs.States.{Meets}
use Rattle.service_cut.specs.declared.items.Service.{Service}
use Rattle.service_cut.specs.declared.items.Cycle.{Cycle}
use Rattle.service_cut.specs.Cut.{services_from, cycles_from}
use Rattle.split_measures.specs.declared.sums.PhaseSum.{PhaseSum}
use Rattle.split_measures.specs.declared.failures.SplitSum.{SplitSum}
use Rattle.split_measures.specs.Hours.{AreSplitSums}
use Rattle.split_measures.specs.Phases.{phase_sums}
use Rattle.other_measures.specs.Hours.{AreNumbers, AreStates, OtherNumbers}
use Rattle.reach.specs.Runs.{State}
use Rattle.arrival_measures.specs.declared.sums.ArrivalSum.{ArrivalSum}
use Rattle.arrival_measures.specs.Hours.{AreAllJudged, HaveCycles}
use Rattle.hour_work.specs.Rows.{earlier_rows, own_rows}
use Rattle.board.specs.Channels.{AreSpecs}
use Rattle.arrival_measures.specs.Judged.{phase_channel}
use Rattle.arrival_measures.specs.Green.{shows_green}

-- the whole services whose last row is in the hour
abbrev pub services_in : Settings → Store → ℕ → List Service
services_in c s hour = services_from (is_known s) c.phases (earlier_rows s hour) (own_rows s hour)

-- the whole cycles whose last row is in the hour
abbrev pub cycles_in : Settings → Store → ℕ → List Cycle
cycles_in c s hour = cycles_from (is_known s) c.phases (earlier_rows s hour) (own_rows s hour)

-- what is listed of each of the first n hours, one hour after another
abbrev pub over_hours : {X : Type 0} → (ℕ → List X) → ℕ → List X
over_hours of zero = []
over_hours of (suc n) = over_hours of n ++ of n

-- tenth t is known, and at its end channel i meets what is asked in all histories that agree with the store
abbrev pub MeetsIn : Settings → Store → ℕ → Asked → ℕ → Type 0
MeetsIn c s i asked t = (is_known s t ≡ true) × Meets asked (MayBeAtEndOf (log_of c.specs s) i t)

-- at the end of tenth t the channel with this place may be in the state, in some history that agrees with the store
abbrev pub MayBeIn : Settings → Store → ℕ → ℕ → State → Type 0
MayBeIn c s i t v = MayBeAtEndOf (log_of c.specs s) i t v

-- the measures of an hour: of its phases, at stop bars, of its pedestrian signals, preempts and coordination, and of its approaches
pub record AreMeasures (c : Settings) (s : Store) (hour : ℕ) (splits : List PhaseSum) (failures : List SplitSum) (others : OtherNumbers) (arrivals : List ArrivalSum) : Type 0 where
  pub phases : splits ≡ phase_sums c.phases (services_in c s hour) (cycles_in c s hour)
  pub verdicts : AreSplitSums (log_of c.specs s) c hour (earlier_rows s hour ++ own_rows s hour) failures
  pub numbers : AreNumbers (is_known s) c (earlier_rows s hour) (own_rows s hour) others
  pub states : AreStates (MeetsIn c s) (first_tenth hour) c others
  pub judged : AreAllJudged (MayBeIn c s) (is_known s) c (earlier_rows s hour) (own_rows s hour) hour arrivals
  pub whole_cycles : HaveCycles (is_known s) c (earlier_rows s hour) (own_rows s hour) arrivals

-- of each whole cycle whose last row is in an hour of a store: at the end of each of its tenths it is green, or not, by the rows alone exactly where the states that its phase may have pass so
abbrev pub CyclesShow : Bool → ((State → Type 0) → Type 0) → Type 0
CyclesShow green Pass = (c : Settings) (s : Store) (hour n i t : ℕ) (d : Cycle) → AreSpecs c.specs → IsStore s → HasHistory (log_of c.specs s) → hour < length s.hours → n < length (cycles_in c s hour) → let x = slice_index_or (cycles_in c s hour) n d in spec_place c.specs (phase_channel x.phase) ≡ Some i → x.from ≤ t → t < x.to → (shows_green x.phase x.from (earlier_rows s hour ++ own_rows s hour) t ≡ green) ↔ Pass (MayBeIn c s i t)
