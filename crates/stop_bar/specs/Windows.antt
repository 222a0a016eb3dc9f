-- The windows of services, which may cross the points between hours.
use Rattle.std.specs.Prelude.{ℕ, ◌≡◌, ◌<◌, ◌≤◌, ◌+◌, ◌++◌, min, not, nat_le, Option, Some, None, List, [], ◌∷◌, map}
use Rattle.std.specs.List.{filter, AllByRecursion}
use Rattle.board.specs.Logs.{end_tenth, first_tenth}
use Rattle.signal_log.specs.Log.{Log}
use Rattle.service_cut.specs.declared.items.Service.{Service}
use Rattle.detector_state.specs.declared.part.Part.{Part}
use Rattle.detector_state.specs.Hours.{AreTenths, IsSwitched, TellsEach}
use Rattle.stop_bar.specs.declared.windows.OpenGreen.{OpenGreen}
use Rattle.stop_bar.specs.declared.windows.Windows.{Windows}
use Rattle.std.specs.Option.{IfSome}

-- For contracts alone: how long the detector was on in the green that is open, where one is.
abbrev pub IsOpen : Log → ℕ → Option OpenGreen → Type 0
IsOpen log i green = IfSome green (λ o. AreTenths log i o.b o.to o.tenths)

-- a green from b to g that began before tenth `first` is the one that was open there
abbrev pub IsOpened : ℕ → ℕ → ℕ → Option OpenGreen → Type 0
IsOpened first b g None = ⊥
IsOpened first b g (Some o) = (o.b ≡ b) × (o.to ≡ min g first)

-- how long the detector was on in the green of a service and in its red window, which has come to tenth t
pub record IsPending (log : Log) (i t : ℕ) (w : Windows) : Type 0 where
  pub green : AreTenths log i w.service.b w.service.g w.green
  pub red : AreTenths log i w.service.r t w.red

-- of one whose red window is over
abbrev pub IsEnded : Log → ℕ → Windows → Type 0
IsEnded log i w = IsPending log i (w.service.r + 50) w

-- these are the numbers of services whose red windows have come to tenth t
abbrev pub ArePending : Log → ℕ → ℕ → List Windows → Type 0
ArePending log i t ws = AllByRecursion (IsPending log i t) ws

abbrev pub AreEnded : Log → ℕ → List Windows → Type 0
AreEnded log i [] = Unit {0}
AreEnded log i (w ∷ ws) = IsEnded log i w × AreEnded log i ws

-- its red window ends in the hour
abbrev pub EndsIn : ℕ → ℕ → Windows → Type 0
EndsIn first end w = (first ≤ w.service.r + 50) × (w.service.r + 50 ≤ end)

abbrev pub EndIn : ℕ → ℕ → List Windows → Type 0
EndIn first end [] = Unit {0}
EndIn first end (w ∷ ws) = EndsIn first end w × EndIn first end ws

-- each service ends in the hour, and was open at its begin where it began before
abbrev pub IsServiceOf : ℕ → ℕ → Option OpenGreen → Service → Type 0
IsServiceOf first end begun s = (s.b ≤ s.g) × (s.g ≤ end) × (first ≤ s.r) × (s.r < end) × (s.b < first → IsOpened first s.b s.g begun)

abbrev pub AreServicesOf : ℕ → ℕ → Option OpenGreen → List Service → Type 0
AreServicesOf first end begun [] = Unit {0}
AreServicesOf first end begun (s ∷ ss) = IsServiceOf first end begun s × AreServicesOf first end begun ss

-- the services that wait before an hour, and those that end in it, are such as it can have
abbrev pub AreFit : ℕ → Option OpenGreen → List Windows → List Service → Type 0
AreFit hour begun pending services = EndIn (first_tenth hour) (end_tenth hour) pending × AreServicesOf (first_tenth hour) (end_tenth hour) begun services

-- the services whose red window is over by tenth `end`
abbrev pub due : ℕ → List Service → List Service
due end ss = filter (λ s. nat_le (s.r + 50) end) ss

-- the services whose red window isn't over by tenth `end`
abbrev pub left : ℕ → List Service → List Service
left end ss = filter (λ s. not (nat_le (s.r + 50) end)) ss

-- For contracts alone: the services of these windows.
abbrev pub services_of : List Windows → List Service
services_of ws = map (λ w. w.service) ws

-- whatever log has these tenths of the detector in the hour, with the open green and the services that wait before it, has these numbers of the windows that end in it, and these at its end; the services are such as an hour has
abbrev pub AreWindows : ℕ → Option OpenGreen → List Windows → List Service → List Part → List Windows → List Windows → Type 0
AreWindows hour begun pending services parts ended waiting = (log : Log) (i : ℕ) → IsSwitched log i hour parts → AreFit hour begun pending services → IsOpen log i begun → ArePending log i (first_tenth hour) pending → AreEnded log i ended × ArePending log i (end_tenth hour) waiting

-- the parts tell of the tenths from `first` up to `end` of the log, and the open green's numbers are its
abbrev pub IsTold : Log → ℕ → ℕ → ℕ → List Part → Option OpenGreen → Type 0
IsTold log i first end parts begun = TellsEach log i first end parts × IsOpen log i begun

-- the windows of a service are over, or wait, with their numbers so far where it is one of the hour
pub data IsTaken (first end : ℕ) (begun : Option OpenGreen) (parts : List Part) (s : Service) (vs ws ps qs : List Windows) : Type 0 where
  over : s.r + 50 ≤ end → qs ≡ ps → (w : Windows) → ws ≡ vs ++ w ∷ [] → w.service ≡ s → ((log : Log) (i : ℕ) → IsTold log i first end parts begun → IsServiceOf first end begun s → IsEnded log i w) → IsTaken first end begun parts s vs ws ps qs
  waits : end < s.r + 50 → ws ≡ vs → (w : Windows) → qs ≡ ps ++ w ∷ [] → w.service ≡ s → ((log : Log) (i : ℕ) → IsTold log i first end parts begun → IsServiceOf first end begun s → IsPending log i end w) → IsTaken first end begun parts s vs ws ps qs
