-- What the specs say of a part of a log in one place, by names for proofs.
use Rattle.std.proofs.Common.{◌≡◌, ℕ, ◌-◌, Bool, Option, List, [], take, drop}
use Rattle.std.specs.Prelude.{◌==◌, ◌&&◌, ◌||◌, ◌++◌, if◌then◌else◌, nat_le, nat_lt, sum_by}
use Rattle.std.specs.Option.{MatchOption}
use Rattle.sig_base.specs.declared.values.Row.{Row}
use Rattle.sig_base.specs.HourRows.{Shown}
use Rattle.board.specs.Logs.{first_tenth}
use Rattle.hour_store.specs.Store.{Store, is_known}
use Rattle.ring_config.specs.Settings.{Settings}
use Rattle.ring_config.specs.declared.items.Approach.{Approach}
use Rattle.service_cut.specs.declared.items.Service.{Service}
use Rattle.stop_bar.specs.Windows.{left}
use Rattle.split_measures.specs.declared.failures.SplitSum.{SplitSum}
use Rattle.arrival_measures.specs.declared.sums.ArrivalSum.{ArrivalSum}
use Rattle.arrival_measures.specs.Arrivals.{ons_of}
use Rattle.arrival_measures.specs.Cycles.{CycleNumbers}
use Rattle.arrival_measures.specs.Faults.{arrivals_from, faults_from}
use Rattle.arrival_measures.specs.Hours.{cycles_of, no_actuations, no_arrivals}
use Rattle.arrival_measures.specs.Travel.{told}
use Rattle.measure_laws.specs.Plain.{ArePlainActuations, ArePlainArrivals, ArePlainCycles}
use Rattle.service_cut.specs.declared.items.Cycle.{Cycle}
use Rattle.arrival_measures.specs.Green.{arrivals_in, green_arrivals_in, green_tenths_in}

-- the numbers of no service
abbrev pub no_verdicts : SplitSum
no_verdicts = record { fail = 0; pass = 0; undecided = 0; left_open = 0; fault = 0 }

-- the numbers of an approach with a detector, or else of none

abbrev pub HavePlainArrivals : Settings → Store → (ℕ → List Row) → (Row → Bool) → List Row → List Row → Approach → ArrivalSum → Option ℕ → Type 0
HavePlainArrivals c s ons seen before rows a n o = MatchOption o (no_arrivals n) (λ d. ArePlainArrivals c s a seen (ons d) (ons_of d (faults_from (is_known s) before rows)) n)

abbrev pub HavePlainActuations : Settings → Store → List Row → List Row → Approach → ArrivalSum → Option ℕ → Type 0
HavePlainActuations c s before rows a n o = MatchOption o (no_actuations n) (λ d. ArePlainActuations c s a (ons_of d (arrivals_from (is_known s) before rows)) (ons_of d (faults_from (is_known s) before rows)) n)

abbrev pub HavePlainCycles : (ℕ → Bool) → Settings → List Row → List Row → Approach → ArrivalSum → Option ℕ → Type 0
HavePlainCycles known c before rows a n o = MatchOption o ((n.cycle_arrivals ≡ 0) × (n.cycle_green ≡ 0) × (n.green_tenths ≡ 0) × (n.cycle_tenths ≡ 0)) (λ d. ArePlainCycles a.phase d (told known a.phase d a.travel (before ++ rows)) (cycles_of known c a.phase before rows) n)

-- the numbers of these cycles of phase p, by themselves
pub record AreCycleNumbers (p d : ℕ) (rows : List Row) (cs : List Cycle) (n : CycleNumbers) : Type 0 where
  pub arrivals : n.arrivals ≡ sum_by (λ x. arrivals_in d x.from x.to rows) cs
  pub green : n.green ≡ sum_by (λ x. green_arrivals_in p d x.from x.to rows) cs
  pub green_tenths : n.green_tenths ≡ sum_by (λ x. green_tenths_in p x.from x.to rows) cs
  pub tenths : n.tenths ≡ sum_by (λ x. x.to - x.from) cs

-- what is held of the hours from `first` up to `last`, that one left out
abbrev pub held_between : Store → ℕ → ℕ → List (Option Shown)
held_between s first last = take (last - first) (drop first s.hours)

-- the arrival counts in these hours
abbrev pub counts_between : Settings → ℕ → ℕ → Row → Bool
counts_between c first last x = nat_le (first_tenth first) x.at && (last == c.window.hours || nat_lt x.at (first_tenth last))

-- what the phase shows when a vehicle arrives can be asked
abbrev pub is_seen_by : (ℕ → Bool) → ℕ → Row → Bool
is_seen_by known last x = known x.at && nat_lt x.at (first_tenth last)

-- the services that are left open
abbrev pub open_by : Settings → ℕ → List Service → List Service
open_by c last ss = if nat_le c.window.hours last then left (first_tenth last) ss else []
