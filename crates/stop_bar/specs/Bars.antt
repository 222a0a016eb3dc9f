-- The services of a stop bar's phase, and their windows, up to a point and in an hour.
use Rattle.std.specs.Prelude.{ℕ, ◌≡◌, ◌+◌, ◌++◌, ◌&&◌, ◌==◌, nat_le, nat_lt, true, Bool, Option, List, [], find, map}
use Rattle.std.specs.List.{filter}
use Rattle.sig_base.specs.declared.values.PhaseItem.{PhaseItem}
use Rattle.sig_base.specs.declared.values.Row.{Row}
use Rattle.sig_base.specs.Numbers.{has_phase}
use Rattle.board.specs.Logs.{end_tenth, first_tenth}
use Rattle.signal_log.specs.Log.{Log}
use Rattle.hour_sweep.specs.Rows.{known_rows}
use Rattle.service_cut.specs.declared.items.OpenService.{OpenService}
use Rattle.service_cut.specs.declared.items.Service.{Service}
use Rattle.service_cut.specs.declared.items.Termination.TheVariants.{Unlogged}
use Rattle.service_cut.specs.Cut.{CutLists, IsCut, services_from}
use Rattle.service_cut.specs.Services.{service_begun_of}
use Rattle.detector_state.specs.declared.part.Part.{Part}
use Rattle.detector_state.specs.Hours.{IsSwitched, AreTenths}
use Rattle.stop_bar.specs.declared.windows.Windows.{Windows}
use Rattle.stop_bar.specs.Going.{AreRowsAbout, IsGreenAt}
use Rattle.stop_bar.specs.Windows.{AreEnded, ArePending, IsOpen, left, services_of}
use Rattle.stop_bar.specs.Crossing.{Crossing}
use Rattle.stop_bar.specs.declared.windows.OpenGreen.{OpenGreen}
use Rattle.hour_sweep.specs.Sums.{own}
use Rattle.std.specs.Option.{IfSome}

-- the whole services of phase p that end among the rows, without their terminations, which are no more under way once an end of yellow has come
abbrev pub services_upto : (ℕ → Bool) → List PhaseItem → ℕ → List Row → List Service
services_upto known phases p rows = map (λ (s : Service). record s { end = Unlogged }) (own (λ s. s.phase) p (services_from known phases [] rows))

-- For contracts alone: a service without its termination, and each of some.
abbrev pub without_end : Service → Service
without_end s = record s { end = Unlogged }

abbrev pub without_ends : List Service → List Service
without_ends ss = map without_end ss

-- the open service of phase p among these
abbrev pub open_with : ℕ → List OpenService → Option OpenService
open_with p ys = find (λ y. y.phase == p) ys

-- the services whose red window ends after tenth a and by tenth b
abbrev pub ending : ℕ → ℕ → List Service → List Service
ending a b ss = filter (λ s. nat_lt a (s.r + 50) && nat_le (s.r + 50) b) ss

-- this is what is under way at a stop bar of phase p, whose detector has place i, at point k, where these are the known rows before it: the green that is open there and the services whose red window isn't over, with how long the detector was on
pub record IsAtBar (log : Log) (i : ℕ) (phases : List PhaseItem) (p : ℕ) (before : List Row) (k : ℕ) (at : Crossing) : Type 0 where
  pub green : IsGreenAt (first_tenth k) (service_begun_of log.known (first_tenth k) p before) at.green
  pub tenths : IfSome at.green (λ o. AreTenths log i o.b o.to o.tenths)
  pub waiting : map (λ w. w.service) at.pending ≡ left (first_tenth k) (services_upto log.known phases p before)
  pub numbers : ArePending log i (first_tenth k) at.pending

-- an hour of the log with these rows, where these are the known rows before it: what service_cut lists of it, and the colours of the detector
pub record IsHourOf (log : Log) (i : ℕ) (phases : List PhaseItem) (hour : ℕ) (before rows : List Row) (cuts : CutLists) (parts : List Part) : Type 0 where
  pub about : AreRowsAbout hour before rows
  pub cut : IsCut log.known phases before hour rows cuts
  pub told : IsSwitched log i hour parts

-- the green is the one that the phase has at the end of an hour, by what crosses the point before the hour
abbrev pub IsOpenNext : ℕ → ℕ → Crossing → CutLists → List Part → Option OpenGreen → Type 0
IsOpenNext p hour at cuts parts green = (log : Log) (i : ℕ) (phases : List PhaseItem) (before rows : List Row) → has_phase phases p ≡ true → IsHourOf log i phases hour before rows cuts parts → IsAtBar log i phases p before hour at → IsGreenAt (end_tenth hour) (service_begun_of log.known (end_tenth hour) p (before ++ known_rows log.known rows)) green × IsOpen log i green

-- the services of phase p whose red window ends in the hour, by the known rows up to its end, with the log's numbers
pub record AreOver (log : Log) (i : ℕ) (phases : List PhaseItem) (p hour : ℕ) (upto : List Row) (ended : List Windows) : Type 0 where
  pub services : services_of ended ≡ ending (first_tenth hour) (end_tenth hour) (services_upto log.known phases p upto)
  pub numbers : AreEnded log i ended

-- from what crosses the point before an hour of a log come the windows that end in the hour, and what crosses the point after it
abbrev pub IsBarHour : ℕ → ℕ → Crossing → CutLists → List Part → List Windows → Crossing → Type 0
IsBarHour p hour at cuts parts ended after = (log : Log) (i : ℕ) (phases : List PhaseItem) (before rows : List Row) → has_phase phases p ≡ true → IsHourOf log i phases hour before rows cuts parts → IsAtBar log i phases p before hour at → let upto = before ++ known_rows log.known rows in AreOver log i phases p hour upto ended × IsAtBar log i phases p upto (hour + 1) after

-- a log has one value at a point
abbrev pub CrossesOnce : Type 0
CrossesOnce = (log : Log) (i : ℕ) (phases : List PhaseItem) (p : ℕ) (before : List Row) (k : ℕ) (a b : Crossing) → IsAtBar log i phases p before k a → IsAtBar log i phases p before k b → a ≡ b

-- the windows that end in an hour are the same, whatever comes after
abbrev pub AreListedOnce : Type 0
AreListedOnce = (log : Log) (i : ℕ) (phases : List PhaseItem) (p hour : ℕ) (upto : List Row) (vs ws : List Windows) → AreOver log i phases p hour upto vs → AreOver log i phases p hour upto ws → vs ≡ ws
