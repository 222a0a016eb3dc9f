-- The verdicts of an hour's services, stop bar by stop bar.
use Rattle.std.specs.Prelude.{ℕ, ◌≡◌, ◌≤◌, ◌+◌, ◌++◌, nat_le, true, if◌then◌else◌, All, List, [], map, Option, Some, None}
use Rattle.sig_base.specs.declared.values.Row.{Row}
use Rattle.board.specs.Channels.{AreSpecs}
use Rattle.board.specs.Logs.{end_tenth, first_tenth}
use Rattle.signal_log.specs.Log.{HasHistory, Log}
use Rattle.hour_sweep.specs.Sums.{merged}
use Rattle.hour_sweep.specs.Hours.{AreOrdered}
use Rattle.hour_sweep.specs.Rows.{known_rows}
use Rattle.service_cut.specs.declared.items.Service.{Service}
use Rattle.service_cut.specs.Cut.{CutLists}
use Rattle.ring_config.specs.Settings.{Settings}
use Rattle.ring_config.specs.Sound.{IsSound}
use Rattle.ring_config.specs.declared.items.Approach.{Approach}
use Rattle.detector_state.specs.declared.part.Part.{Part}
use Rattle.stop_bar.specs.declared.windows.Windows.{Windows}
use Rattle.stop_bar.specs.Windows.{left, services_of}
use Rattle.stop_bar.specs.declared.bars.StopBar.{StopBar}
use Rattle.stop_bar.specs.Bars.{ending, services_upto}
use Rattle.stop_bar.specs.Crossing.{Crossing}
use Rattle.stop_bar.specs.Lists.{Each}
use Rattle.stop_bar.specs.All.{AreAtBars, AreTold, IsCutHour, IsPlaceOf, bar_with}
use Rattle.split_measures.specs.declared.failures.SplitSum.{SplitSum}
use Rattle.split_measures.specs.declared.sums.PhaseSum.{PhaseSum}
use Rattle.split_measures.specs.declared.verdict.SplitVerdict.{SplitVerdict}
use Rattle.split_measures.specs.declared.verdict.SplitVerdict.TheVariants.{Open}
use Rattle.split_measures.specs.Failures.{both_sums, split_sum_of}
use Rattle.split_measures.specs.Phases.{added}
use Rattle.split_measures.specs.Verdicts.{IsVerdict, verdicts_by}

-- the numbers of each phase, and of each approach
pub record Splits : Type 0 where
  pub phases : List PhaseSum
  pub approaches : List SplitSum

-- the numbers of no hour
abbrev pub no_splits : Splits
no_splits = record { phases = []; approaches = [] }

-- the numbers of two parts of a log together
abbrev pub splits_added : Splits → Splits → Splits
splits_added a b = record { phases = merged added a.phases b.phases; approaches = merged both_sums a.approaches b.approaches }

-- in the last of so many hours the services whose red window isn't over at its end; in another hour none
abbrev pub open_in : ℕ → ℕ → List Service → List Service
open_in hours hour ss = if nat_le hours (hour + 1) then left (end_tenth hour) ss else []

-- these services are open: the window ends before their red window does
abbrev pub opens_of : List Service → List SplitVerdict
opens_of ss = map (λ s. Open) ss

-- of those that wait at the hour's end, where it is the last one or isn't
abbrev pub open_at_end : ℕ → ℕ → Crossing → List Service
open_at_end hours hour at = if nat_le hours (hour + 1) then services_of at.pending else []

-- the sum of an approach with a stop bar, by the windows of the services that ended and by what waits at the hour's end
abbrev pub IsBarSum : ℕ → ℕ → Approach → Option (List Windows) → Option Crossing → SplitSum → Type 0
IsBarSum hours hour approach ended at sum = (b : StopBar) (ws : List Windows) (x : Crossing) → bar_with approach approach.stop_bar ≡ Some b → ended ≡ Some ws → at ≡ Some x → sum ≡ split_sum_of (verdicts_by b.high ws ++ opens_of (open_at_end hours hour x))

-- the verdicts on the services of a stop bar that count in an hour: each service whose red window ends in the hour has the verdict that all histories tell, and in the window's last hour those are open whose red window isn't over
pub record IsSplitSum (log : Log) (c : Settings) (i : ℕ) (b : StopBar) (hour : ℕ) (upto : List Row) (sum : SplitSum) : Type 0 where
  pub verdicts : List SplitVerdict
  pub each : Each (λ s v. IsVerdict log i b.high s v) (ending (first_tenth hour) (end_tenth hour) (services_upto log.known c.phases b.phase upto)) verdicts
  pub sums : sum ≡ split_sum_of (verdicts ++ opens_of (open_in c.window.hours hour (services_upto log.known c.phases b.phase upto)))

-- the verdicts of an approach in an hour: those of its stop bar, where it has one
abbrev pub IsApproachSum : Log → Settings → ℕ → List Row → SplitSum → Option StopBar → Type 0
IsApproachSum log c hour upto sum None = sum ≡ split_sum_of []
IsApproachSum log c hour upto sum (Some b) = (i : ℕ) × IsPlaceOf c b i × IsSplitSum log c i b hour upto sum

-- the verdicts of all approaches in an hour, in file order
abbrev pub AreSplitSums : Log → Settings → ℕ → List Row → List SplitSum → Type 0
AreSplitSums log c hour upto sums = Each (λ a sum. IsApproachSum log c hour upto sum (bar_with a a.stop_bar)) c.approaches sums

-- a log under a configuration that can be read, with which some history agrees, and its known rows up to the end of one of its hours
pub record IsLogUpto (log : Log) (c : Settings) (hour : ℕ) (upto : List Row) : Type 0 where
  pub sound : IsSound c
  pub specs : log.specs ≡ c.specs
  pub are_specs : AreSpecs log.specs
  pub history : HasHistory log
  pub within : hour + 1 ≤ log.hours
  pub ordered : AreOrdered 0 (end_tenth hour) upto
  pub are_known : All (λ z. log.known z.at ≡ true) upto

-- an hour of it: what service_cut lists, the colours of the detectors, and what crosses the point before it
pub record IsSplitHour (log : Log) (c : Settings) (hour : ℕ) (before rows : List Row) (cuts : CutLists) (told : List (List Part)) (ats : List Crossing) : Type 0 where
  pub cut : IsCutHour log c hour before rows cuts
  pub tells : AreTold log c hour told
  pub here : AreAtBars log c before hour ats

-- the hour's sums, whatever log it is an hour of
abbrev pub AreHourSums : Settings → ℕ → CutLists → List (List Part) → List Crossing → List SplitSum → Type 0
AreHourSums c hour cuts told ats sums = (log : Log) (before rows : List Row) → IsSplitHour log c hour before rows cuts told ats → let upto = before ++ known_rows log.known rows in IsLogUpto log c hour upto → AreSplitSums log c hour upto sums

-- what crosses the point after it
abbrev pub CrossesNext : Settings → ℕ → CutLists → List (List Part) → List Crossing → List Crossing → Type 0
CrossesNext c hour cuts told ats after = (log : Log) (before rows : List Row) → IsSplitHour log c hour before rows cuts told ats → AreAtBars log c (before ++ known_rows log.known rows) (hour + 1) after

-- the sums of an hour are one list
abbrev pub SplitSumsAreOne : Type 0
SplitSumsAreOne = (log : Log) (c : Settings) (hour : ℕ) (upto : List Row) (a b : List SplitSum) → HasHistory log → AreSplitSums log c hour upto a → AreSplitSums log c hour upto b → a ≡ b
