-- What crosses a point between two hours.
use Rattle.std.specs.Prelude.{ℕ, ◌≡◌, ◌-◌, ◌++◌, ◌<◌, nat_lt, ◌&&◌, Bool, List, [], Option, Some, None, All, length, map, option_map, option_and_then, filter, nat_le, replicate}
use Rattle.sig_base.specs.declared.values.Row.{Row}
use Rattle.event_codes.specs.declared.channels.Kind.TheVariants.{Detector}
use Rattle.hour_sweep.specs.Hours.{AreOrdered, point}
use Rattle.hour_sweep.specs.Numbers.{table}
use Rattle.service_cut.specs.declared.items.OpenCycle.{OpenCycle}
use Rattle.service_cut.specs.Cycles.{cycle_begun_of}
use Rattle.ring_config.specs.Settings.{Settings, is_tracked_as}
use Rattle.ring_config.specs.declared.items.Approach.{Approach}
use Rattle.arrival_measures.specs.declared.open.Open.{Open}
use Rattle.arrival_measures.specs.Opens.{open_at}
use Rattle.arrival_measures.specs.declared.carry.Crossing.{Crossing}
use Rattle.arrival_measures.specs.declared.faults.Flag.{Flag}
use Rattle.arrival_measures.specs.Faults.{faulty}
use Rattle.arrival_measures.specs.Travel.{arrivals_at, told}
use Rattle.std.specs.Option.{option_map_or}

-- what is under way at t of an approach that has an advance detector: what the cycle that its phase has begun has given so far at the detector, where every tenth since is known, and the arrival tenths still to come, at t or later, of vehicles that have passed it before t; nothing without such a detector
abbrev pub crossing_of : (ℕ → Bool) → ℕ → List Row → Approach → Crossing
crossing_of known t before a = record {
  begun = option_and_then (λ d. option_map (λ s. open_at a.phase d s.from.at t (told known a.phase d a.travel before)) (cycle_begun_of known t a.phase before)) a.advance;
  pending = option_map_or (λ d. map (λ x. x.at) (filter (λ x. nat_le t x.at) (arrivals_at known d a.travel before))) a.advance [];
}

-- the detector is one of an approach
abbrev pub has_detector : Settings → ℕ → Bool
has_detector c d = nat_lt d 129 && is_tracked_as c Detector d

-- of a detector, whether it is sure to have a fault at t
abbrev pub flag_of : (ℕ → Bool) → ℕ → List Row → ℕ → Flag
flag_of known t before d = record { fault = faulty known t before d }

-- of each detector of an approach, at the place of its number, whether it is sure to have a fault at t
abbrev pub flags_of : (ℕ → Bool) → Settings → ℕ → List Row → List (Option Flag)
flags_of known c t before = table (has_detector c) 129 (flag_of known t before)

-- the flags of all numbers, where a table goes only so far: no detector past its end is one of an approach
abbrev pub all_flags : List (Option Flag) → List (Option Flag)
all_flags flags = flags ++ replicate (129 - length flags) None

-- what is under way of arrivals at a point between two hours: of each approach the cycle so far and the vehicles still to come, and which detectors are sure to have a fault
pub record CarryParts : Type 0 where
  pub crossings : List Crossing
  pub flags : List (Option Flag)

-- these parts are what is under way of arrivals at point k, where these are the known rows before it
pub record IsCarry (known : ℕ → Bool) (c : Settings) (before : List Row) (k : ℕ) (carry : CarryParts) : Type 0 where
  pub earlier : All (λ x. x.at < point k) before
  pub ordered : AreOrdered 0 (point k) before
  pub crossings_are : carry.crossings ≡ map (crossing_of known (point k) before) c.approaches
  pub flags_are : carry.flags ≡ flags_of known c (point k) before

-- ---- For contracts alone: the same in parts.

-- what a cycle of phase p that is under way has given so far at detector d, by the rows up to t; nothing where none is under way
abbrev pub open_since : ℕ → ℕ → ℕ → List Row → Option OpenCycle → Option Open
open_since p d t told None = None
open_since p d t told (Some s) = Some (open_at p d s.from t told)

abbrev pub open_with : (ℕ → Bool) → ℕ → List Row → Approach → Option ℕ → Option Open
open_with known t before a advance = option_and_then (λ d. option_map (λ s. open_at a.phase d s.from.at t (told known a.phase d a.travel before)) (cycle_begun_of known t a.phase before)) advance

abbrev pub pending_with : (ℕ → Bool) → ℕ → List Row → Approach → Option ℕ → List ℕ
pending_with known t before a advance = option_map_or (λ d. map (λ x. x.at) (filter (λ x. nat_le t x.at) (arrivals_at known d a.travel before))) advance []
