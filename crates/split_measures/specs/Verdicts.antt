-- Whether services are split failures, over all histories of the window that agree.
use Rattle.std.specs.Prelude.{ℕ, ◌<◌, ◌≤◌, ◌+◌, ◌-◌, ◌*◌, ◌⊎◌, nat_le, ◌&&◌, ◌||◌, if◌then◌else◌, Bool, List, [], ◌∷◌}
use Rattle.sig_base.specs.declared.values.Frac.{Frac}
use Rattle.event_codes.specs.declared.channels.Channel.{Channel}
use Rattle.board.specs.Channels.{AreSpecs}
use Rattle.board.specs.History.{History}
use Rattle.signal_log.specs.Log.{AgreesWith, HasHistory, Log, window_end}
use Rattle.detector_state.specs.Ranges.{Counts}
use Rattle.detector_state.specs.Tells.{HasColour, IsColourReached, IsSure}
use Rattle.detector_state.specs.Switches.{IsChannelOf, IsSwitch}
use Rattle.service_cut.specs.declared.items.Service.{Service}
use Rattle.stop_bar.specs.declared.windows.Windows.{Windows}
use Rattle.stop_bar.specs.Windows.{AreEnded}
use Rattle.split_measures.specs.declared.verdict.SplitVerdict.{SplitVerdict}
use Rattle.split_measures.specs.declared.verdict.SplitVerdict.TheVariants.{Fail, Pass, Undecided, Open, Fault}

-- on at so many tenths of both windows a service fails
abbrev pub are_enough : ℕ → ℕ → ℕ → ℕ → ℕ → Bool
are_enough num den width green red = nat_le (num * width) (green * den) && nat_le (num * 50) (red * den)

-- the verdict by the least and the greatest numbers
abbrev pub verdict_of : ℕ → ℕ → ℕ → ℕ → ℕ → ℕ → ℕ → SplitVerdict
verdict_of num den width gl gg rl rg = if are_enough num den width gl rl then Fail else if are_enough num den width gg rg then Undecided else Pass

-- and where a fault is asked for before
abbrev pub verdict_by : Frac → Windows → SplitVerdict
verdict_by high w = if w.green.fault || w.red.fault then Fault else verdict_of high.num high.den (w.service.g - w.service.b) w.green.least w.green.greatest w.red.least w.red.greatest

-- the verdict of each of these services, by what its windows say
abbrev pub verdicts_by : Frac → List Windows → List SplitVerdict
verdicts_by high [] = []
verdicts_by high (w ∷ ws) = verdict_by high w ∷ verdicts_by high ws

-- the service is a split failure in the history: of the tenths of its green, and of the 50 tenths from the end of yellow on, the stop bar's detector is on at the end of at least the share `high`; in a green without a tenth it always is
pub record FailsIn (log : Log) (i : ℕ) (high : Frac) (s : Service) (h : History) : Type 0 where
  pub green : ℕ
  pub red : ℕ
  pub green_counts : Counts (HasColour log h i 1) s.b s.g green
  pub red_counts : Counts (HasColour log h i 1) s.r (s.r + 50) red
  pub in_green : high.num * (s.g - s.b) ≤ green * high.den
  pub in_red : high.num * 50 ≤ red * high.den

-- at some tenth of the service's green or of its red window the detector has a fault, colour 2, in all histories that agree
abbrev pub HasFault : Log → ℕ → Service → Type 0
HasFault log i s = (x : ℕ) × (((s.b ≤ x) × (x < s.g)) ⊎ ((s.r ≤ x) × (x < s.r + 50))) × ((h : History) → AgreesWith log h → HasColour log h i 2 x)

-- the verdict on a service, over all histories that agree: a fault of the detector; else it fails in all, in none, or only in some
abbrev pub IsVerdict : Log → ℕ → Frac → Service → SplitVerdict → Type 0
IsVerdict log i high s Fail = (HasFault log i s → ⊥) × ((h : History) → AgreesWith log h → FailsIn log i high s h)
IsVerdict log i high s Pass = (HasFault log i s → ⊥) × ((h : History) → AgreesWith log h → FailsIn log i high s h → ⊥)
IsVerdict log i high s Undecided = (HasFault log i s → ⊥) × (((h : History) × AgreesWith log h × FailsIn log i high s h) × ((h : History) × AgreesWith log h × (FailsIn log i high s h → ⊥)))
IsVerdict log i high s Open = ⊥
IsVerdict log i high s Fault = HasFault log i s

-- each service has its verdict
abbrev pub AreVerdicts : Log → ℕ → Frac → List Windows → List SplitVerdict → Type 0
AreVerdicts log i high [] [] = Unit {0}
AreVerdicts log i high [] (v ∷ vs) = ⊥
AreVerdicts log i high (w ∷ ws) [] = ⊥
AreVerdicts log i high (w ∷ ws) (v ∷ vs) = IsVerdict log i high w.service v × AreVerdicts log i high ws vs

-- the windows of the service lie in the log's
pub record IsInLog (log : Log) (s : Service) : Type 0 where
  pub green : s.b ≤ s.g
  pub yellow : s.g ≤ s.r
  pub red : s.r + 50 ≤ window_end log

abbrev pub AreInLog : Log → List Windows → Type 0
AreInLog log [] = Unit {0}
AreInLog log (w ∷ ws) = IsInLog log w.service × AreInLog log ws

-- where some history agrees, the verdicts by numbers of a detector's windows are what all histories tell
abbrev pub VerdictsTell : Type 0
VerdictsTell = (log : Log) (i : ℕ) (channel : Channel) (high : Frac) (ws : List Windows) → AreSpecs log.specs → HasHistory log → IsChannelOf log i channel → IsSwitch channel.kind → AreInLog log ws → AreEnded log i ws → AreVerdicts log i high ws (verdicts_by high ws)

-- the numbers of both windows: the tenths at which channel i is sure to be on, and those at which it may be
pub record AreNumbers (log : Log) (i : ℕ) (s : Service) (gl gg rl rg : ℕ) : Type 0 where
  pub green_least : Counts (IsSure log i 1) s.b s.g gl
  pub green_greatest : Counts (IsColourReached log i 1) s.b s.g gg
  pub red_least : Counts (IsSure log i 1) s.r (s.r + 50) rl
  pub red_greatest : Counts (IsColourReached log i 1) s.r (s.r + 50) rg

-- a service without a fault fails in all, in none or only in some histories, as the four numbers tell
abbrev pub NumbersTell : Type 0
NumbersTell = (log : Log) (i : ℕ) (channel : Channel) (high : Frac) (s : Service) (gl gg rl rg : ℕ) → AreSpecs log.specs → HasHistory log → IsChannelOf log i channel → IsSwitch channel.kind → IsInLog log s → (HasFault log i s → ⊥) → AreNumbers log i s gl gg rl rg → IsVerdict log i high s (verdict_of high.num high.den (s.g - s.b) gl gg rl rg)
