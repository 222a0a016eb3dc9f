-- The numbers of one hour.
use Rattle.std.specs.Prelude.{ℕ, ◌≡◌, ◌+◌, ◌<◌, ◌≤◌, false, ◌==◌, ◌&&◌, ◌||◌, not, nat_le, nat_lt, ◌++◌, Bool, List, Option, Some, None, filter, length, map, slice_index_or}
use Rattle.sig_base.specs.declared.values.Row.{Row}
use Rattle.hour_sweep.specs.Sums.{capped, own}
use Rattle.hour_sweep.specs.Hours.{point}
use Rattle.service_cut.specs.declared.items.Cycle.{Cycle}
use Rattle.service_cut.specs.Cut.{cycles_from}
use Rattle.reach.specs.Runs.{State}
use Rattle.ring_config.specs.Settings.{Settings}
use Rattle.ring_config.specs.declared.items.Approach.{Approach}
use Rattle.arrival_measures.specs.declared.sums.ArrivalSum.{ArrivalSum}
use Rattle.arrival_measures.specs.Arrivals.{ons_of}
use Rattle.arrival_measures.specs.Faults.{arrivals_from, faults_from}
use Rattle.arrival_measures.specs.Travel.{arrivals_at, told}
use Rattle.arrival_measures.specs.Judged.{AreJudged, is_green, is_red}
use Rattle.arrival_measures.specs.Cycles.{CycleNumbers, numbers_of}

-- the numbers of no row
abbrev pub no_sum : ArrivalSum
no_sum = record { arrivals = 0; green = 0; not_green = 0; undecided = 0; unseen = 0; fault = 0; cycle_arrivals = 0; cycle_green = 0; green_tenths = 0; cycle_tenths = 0; actuations = 0; red = 0; not_red = 0; red_undecided = 0; red_fault = 0 }

-- the numbers of two parts of a log together
abbrev pub added : ArrivalSum → ArrivalSum → ArrivalSum
added a b = record {
  arrivals = capped (a.arrivals + b.arrivals);
  green = capped (a.green + b.green);
  not_green = capped (a.not_green + b.not_green);
  undecided = capped (a.undecided + b.undecided);
  unseen = capped (a.unseen + b.unseen);
  fault = capped (a.fault + b.fault);
  cycle_arrivals = capped (a.cycle_arrivals + b.cycle_arrivals);
  cycle_green = capped (a.cycle_green + b.cycle_green);
  green_tenths = capped (a.green_tenths + b.green_tenths);
  cycle_tenths = capped (a.cycle_tenths + b.cycle_tenths);
  actuations = capped (a.actuations + b.actuations);
  red = capped (a.red + b.red);
  not_red = capped (a.not_red + b.not_red);
  red_undecided = capped (a.red_undecided + b.red_undecided);
  red_fault = capped (a.red_fault + b.red_fault);
}

-- the whole cycles of phase p that end among the rows, where the first rows stand before them
abbrev pub cycles_of : (ℕ → Bool) → Settings → ℕ → List Row → List Row → List Cycle
cycles_of known c p before rows = own (λ x. x.phase) p (cycles_from known c.phases before rows)

-- the hour is the window's last
abbrev pub is_last : Settings → ℕ → Bool
is_last c hour = hour + 1 == c.window.hours

-- an arrival at this tenth counts in the hour: it is one of the hour, or any later one where the hour is the window's last
abbrev pub counts_in : Settings → ℕ → Row → Bool
counts_in c hour x = nat_le (point hour) x.at && (is_last c hour || nat_lt x.at (point (hour + 1)))

-- the arrivals of an approach at detector d that count in the hour, where these are all known rows up to its end
abbrev pub due_in : (ℕ → Bool) → Settings → ℕ → ℕ → ℕ → List Row → List Row
due_in known c hour d v rows = filter (counts_in c hour) (arrivals_at known d v rows)

-- what the phase shows when a vehicle arrives can be asked: the arrival's tenth is known, and in the hour or before it
abbrev pub is_seen : (ℕ → Bool) → ℕ → Row → Bool
is_seen known hour x = known x.at && nat_lt x.at (point (hour + 1))

-- no tenth of the hour is known
abbrev pub IsUnheld : (ℕ → Bool) → ℕ → Type 0
IsUnheld known hour = (t : ℕ) → point hour ≤ t → t < point (hour + 1) → known t ≡ false

-- the arrivals at the advance detector that count in the hour with these known rows, each that is seen judged by whether the phase is green
pub record AreArrivals (May : ℕ → ℕ → State → Type 0) (known : ℕ → Bool) (c : Settings) (a : Approach) (d : ℕ) (before rows : List Row) (hour : ℕ) (s : ArrivalSum) : Type 0 where
  pub arrivals : s.arrivals ≡ capped (length (due_in known c hour d a.travel (before ++ rows)))
  pub judged : AreJudged May c a.phase is_green (filter (is_seen known hour) (due_in known c hour d a.travel (before ++ rows))) s.green s.not_green s.undecided
  pub unseen : s.unseen ≡ capped (length (filter (λ x. not (is_seen known hour x)) (due_in known c hour d a.travel (before ++ rows))))
  pub fault : s.fault ≡ capped (length (ons_of d (faults_from known before rows)))

-- an approach without an advance detector has no arrivals
abbrev pub no_arrivals : ArrivalSum → Type 0
no_arrivals s = (s.arrivals ≡ 0) × (s.green ≡ 0) × (s.not_green ≡ 0) × (s.undecided ≡ 0) × (s.unseen ≡ 0) × (s.fault ≡ 0)

-- the arrivals of an approach in the hour, which has some only where it has an advance detector
abbrev pub HasArrivals : (ℕ → ℕ → State → Type 0) → (ℕ → Bool) → Settings → Approach → List Row → List Row → ℕ → ArrivalSum → Option ℕ → Type 0
HasArrivals May known c a before rows hour s None = no_arrivals s
HasArrivals May known c a before rows hour s (Some d) = AreArrivals May known c a d before rows hour s

-- the actuations of the stop bar detector among the rows, each judged by whether the phase is red
pub record AreActuations (May : ℕ → ℕ → State → Type 0) (known : ℕ → Bool) (c : Settings) (a : Approach) (d : ℕ) (before rows : List Row) (s : ArrivalSum) : Type 0 where
  pub actuations : s.actuations ≡ capped (length (ons_of d (arrivals_from known before rows)))
  pub judged : AreJudged May c a.phase is_red (ons_of d (arrivals_from known before rows)) s.red s.not_red s.red_undecided
  pub fault : s.red_fault ≡ capped (length (ons_of d (faults_from known before rows)))

-- an approach without a stop bar detector has no actuations
abbrev pub no_actuations : ArrivalSum → Type 0
no_actuations s = (s.actuations ≡ 0) × (s.red ≡ 0) × (s.not_red ≡ 0) × (s.red_undecided ≡ 0) × (s.red_fault ≡ 0)

-- the actuations of an approach in the hour, which has some only where it has a stop bar detector
abbrev pub HasActuations : (ℕ → ℕ → State → Type 0) → (ℕ → Bool) → Settings → Approach → List Row → List Row → ArrivalSum → Option ℕ → Type 0
HasActuations May known c a before rows s None = no_actuations s
HasActuations May known c a before rows s (Some d) = AreActuations May known c a d before rows s

-- the numbers of whole cycles among the numbers of an approach
abbrev pub cycle_part : ArrivalSum → CycleNumbers
cycle_part s = record { arrivals = s.cycle_arrivals; green = s.cycle_green; green_tenths = s.green_tenths; tenths = s.cycle_tenths }

-- the numbers of no cycle
abbrev pub no_cycles : CycleNumbers
no_cycles = record { arrivals = 0; green = 0; green_tenths = 0; tenths = 0 }

-- what an approach with an advance detector has of whole cycles: over all cycles of its phase that end among the rows; without the detector nothing
abbrev pub cycle_numbers : (ℕ → Bool) → Settings → List Row → List Row → Approach → Option ℕ → CycleNumbers
cycle_numbers known c before rows a None = no_cycles
cycle_numbers known c before rows a (Some d) = numbers_of a.phase d (told known a.phase d a.travel (before ++ rows)) (cycles_of known c a.phase before rows)

-- an approach's judged arrivals and actuations in an hour with these known rows, where the first rows stand before them
pub record HasJudged (May : ℕ → ℕ → State → Type 0) (known : ℕ → Bool) (c : Settings) (before rows : List Row) (hour : ℕ) (a : Approach) (s : ArrivalSum) : Type 0 where
  pub arrivals : HasArrivals May known c a before rows hour s a.advance
  pub actuations : HasActuations May known c a before rows s a.stop_bar

-- the judged arrivals and actuations of all approaches in an hour, in file order
pub record AreAllJudged (May : ℕ → ℕ → State → Type 0) (known : ℕ → Bool) (c : Settings) (before rows : List Row) (hour : ℕ) (sums : List ArrivalSum) : Type 0 where
  pub size : length sums ≡ length c.approaches
  pub each : (i : ℕ) (a : Approach) (s : ArrivalSum) → i < length c.approaches → HasJudged May known c before rows hour (slice_index_or c.approaches i a) (slice_index_or sums i s)

-- the numbers of whole cycles that end among the rows, approach by approach, where the first rows stand before them
abbrev pub are_cycle_numbers : (ℕ → Bool) → Settings → List Row → List Row → List CycleNumbers
are_cycle_numbers known c before rows = map (λ a. cycle_numbers known c before rows a a.advance) c.approaches

-- each approach's numbers of whole cycles are those of the cycles that end among the rows
abbrev pub HaveCycles : (ℕ → Bool) → Settings → List Row → List Row → List ArrivalSum → Type 0
HaveCycles known c before rows sums = map cycle_part sums ≡ are_cycle_numbers known c before rows
