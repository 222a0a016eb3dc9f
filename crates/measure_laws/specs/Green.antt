-- The green of cycles, as the rows alone tell it, is that of all histories.
use Rattle.std.specs.Prelude.{ℕ, ◌≡◌, ◌⊎◌, ◌↔◌, ◌<◌, ◌≤◌, ◌++◌, Bool, List, [], Option, Some, None, length, map, sum, slice_index_or}
use Rattle.sig_base.specs.declared.values.Row.{Row}
use Rattle.reach.specs.Runs.{State}
use Rattle.board.specs.Channels.{AreSpecs}
use Rattle.board.specs.Logs.{first_tenth}
use Rattle.hour_store.specs.Store.{IsStore, Store, is_known, known_rows}
use Rattle.signal_log.specs.Log.{HasHistory, log_of}
use Rattle.ring_config.specs.Settings.{Settings, spec_place}
use Rattle.ring_config.specs.declared.items.Approach.{Approach}
use Rattle.hour_sweep.specs.Sums.{capped}
use Rattle.stop_bar.specs.Lists.{Each}
use Rattle.detector_state.specs.Ranges.{Counts}
use Rattle.service_cut.specs.declared.items.Cycle.{Cycle}
use Rattle.service_cut.specs.declared.items.OpenCycle.{OpenCycle}
use Rattle.service_cut.specs.Cycles.{cycle_begun_of}
use Rattle.service_cut.specs.Parts.{open_cycle_of}
use Rattle.arrival_measures.specs.Arrivals.{ons_of, rows_within}
use Rattle.arrival_measures.specs.Green.{green_arrivals_in, green_tenths_in, shows_green}
use Rattle.arrival_measures.specs.Judged.{AllPass, CountOf, is_green, phase_channel}
use Rattle.arrival_measures.specs.Travel.{told}
use Rattle.arrival_measures.specs.Cycles.{CycleNumbers, cycle_tenths}
use Rattle.arrival_measures.specs.Hours.{cycle_part, cycles_of, no_cycles}
use Rattle.hour_work.specs.Numbers.{Numbers, total_of}
use Rattle.hour_work.specs.Reports.{IsReport}
use Rattle.hour_work.specs.Rows.{earlier_rows, own_rows}
use Rattle.hour_work.specs.Measures.{MayBeIn, cycles_in}

-- these are the known rows, or what they tell of the cycles of phase p and of a detector ahead, with its arrivals a travel time later
abbrev pub AreTold : (ℕ → Bool) → ℕ → List Row → List Row → Type 0
AreTold known p rows ts = (ts ≡ rows) ⊎ ((d : ℕ) × (v : ℕ) × (ts ≡ told known p d v rows))

-- of the cycle that a phase has begun at an hour point and that isn't over there: at the end of each of its tenths it is green, or not, by the rows alone exactly where the states that its phase may have pass so
abbrev pub OpenCyclesShow : Bool → ((State → Type 0) → Type 0) → Type 0
OpenCyclesShow green Pass = (c : Settings) (s : Store) (k p i t : ℕ) (x : OpenCycle) (rows : List Row) → AreSpecs c.specs → IsStore s → HasHistory (log_of c.specs s) → k ≤ length s.hours → spec_place c.specs (phase_channel p) ≡ Some i → open_cycle_of p (cycle_begun_of (is_known s) (first_tenth k) p (earlier_rows s k)) ≡ Some x → AreTold (is_known s) p (earlier_rows s k) rows → x.from ≤ t → t < first_tenth k → (shows_green p x.from rows t ≡ green) ↔ Pass (MayBeIn c s i t)

-- ---- numbers

-- at the end of tenth t the channel with this place is green in all histories that agree with the store
abbrev pub IsGreenAt : Settings → Store → ℕ → ℕ → Type 0
IsGreenAt c s i t = AllPass is_green (MayBeIn c s i t)

-- what these rows count of a cycle, whose phase has place i: its tenths that are green in all histories, and the arrivals at each detector in tenths that are
pub record AreGreenNumbers (c : Settings) (s : Store) (i : ℕ) (rows : List Row) (x : Cycle) : Type 0 where
  pub tenths : Counts (IsGreenAt c s i) x.from x.to (green_tenths_in x.phase x.from x.to rows)
  pub arrivals : (d : ℕ) → CountOf (λ y. IsGreenAt c s i y.at) (ons_of d (rows_within x.from x.to rows)) (green_arrivals_in x.phase d x.from x.to rows)

-- of each whole cycle whose last row is in an hour of a store, what the rows count is what all histories that agree with it tell
abbrev pub GreenNumbers : Type 0
GreenNumbers = (c : Settings) (s : Store) (hour n i : ℕ) (d : Cycle) (rows : List Row) → AreSpecs c.specs → IsStore s → HasHistory (log_of c.specs s) → hour < length s.hours → n < length (cycles_in c s hour) → let x = slice_index_or (cycles_in c s hour) n d in spec_place c.specs (phase_channel x.phase) ≡ Some i → AreTold (is_known s) x.phase (earlier_rows s hour ++ own_rows s hour) rows → AreGreenNumbers c s i rows x

-- ---- sums

-- the numbers of these cycles of phase p, of the arrivals at detector d among these rows: the arrivals in the cycles, those in tenths at whose end the phase is green in all histories, the tenths of the cycles that are such, and all of their tenths
pub record AreCycleSums (c : Settings) (s : Store) (p d : ℕ) (rows : List Row) (cycles : List Cycle) (n : CycleNumbers) : Type 0 where
  pub place : ℕ
  pub is_place : spec_place c.specs (phase_channel p) ≡ Some place
  pub greens : List ℕ
  pub are_greens : Each (λ x k. CountOf (λ y. IsGreenAt c s place y.at) (ons_of d (rows_within x.from x.to rows)) k) cycles greens
  pub tenths : List ℕ
  pub are_tenths : Each (λ x k. Counts (IsGreenAt c s place) x.from x.to k) cycles tenths
  pub arrivals : n.arrivals ≡ capped (sum (map (λ x. length (ons_of d (rows_within x.from x.to rows))) cycles))
  pub green : n.green ≡ capped (sum greens)
  pub green_tenths : n.green_tenths ≡ capped (sum tenths)
  pub all_tenths : n.tenths ≡ capped (sum (map cycle_tenths cycles))

-- those of an approach with an advance detector: of the whole cycles of its phase that end among the rows, where the first rows stand before them, and of its arrivals at their arrival tenths
abbrev pub HaveCycleSums : Settings → Store → List Row → List Row → Approach → CycleNumbers → Option ℕ → Type 0
HaveCycleSums c s before rows a n None = n ≡ no_cycles
HaveCycleSums c s before rows a n (Some d) = AreCycleSums c s a.phase d (told (is_known s) a.phase d a.travel (before ++ rows)) (cycles_of (is_known s) c a.phase before rows) n

-- the numbers of whole cycles in an hour of a report, approach by approach in file order
abbrev pub HourGreen : Type 0
HourGreen = (c : Settings) (s : Store) (all : List Numbers) (hour : ℕ) (d : Numbers) → AreSpecs c.specs → IsStore s → HasHistory (log_of c.specs s) → IsReport c s all → hour < length s.hours → Each (λ a x. HaveCycleSums c s (earlier_rows s hour) (own_rows s hour) a (cycle_part x) a.advance) c.approaches (slice_index_or all hour d).arrivals

-- and in the totals of a report
abbrev pub TotalGreen : Type 0
TotalGreen = (c : Settings) (s : Store) (all : List Numbers) → AreSpecs c.specs → IsStore s → HasHistory (log_of c.specs s) → IsReport c s all → Each (λ a x. HaveCycleSums c s [] (known_rows s) a (cycle_part x) a.advance) c.approaches (total_of all).arrivals
