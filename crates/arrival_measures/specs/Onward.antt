-- What crosses the point after an hour, from the hour's rows and its open cycles alone.
use Rattle.std.specs.Prelude.{ℕ, ◌≡◌, ◌+◌, ◌-◌, ◌^◌, ◌<◌, ◌++◌, min, max, Bool, true, List, Option, Some, None, All, map}
use Rattle.sig_base.specs.declared.values.Row.{Row}
use Rattle.hour_sweep.specs.Rows.{known_rows}
use Rattle.hour_sweep.specs.Hours.{AreOrdered, IsHour, point}
use Rattle.service_cut.specs.declared.items.OpenCycle.{OpenCycle}
use Rattle.service_cut.specs.Cut.{CutLists, IsCut}
use Rattle.ring_config.specs.Settings.{Settings}
use Rattle.ring_config.specs.declared.items.Approach.{Approach}
use Rattle.arrival_measures.specs.declared.carry.Crossing.{Crossing}
use Rattle.arrival_measures.specs.declared.carry_over.PassingRows.{PassingRows}
use Rattle.arrival_measures.specs.Arrivals.{ons_of}
use Rattle.arrival_measures.specs.Crossing.{crossing_of, has_detector}
use Rattle.arrival_measures.specs.Faults.{arrivals_from}
use Rattle.arrival_measures.specs.Steps.{IsOwnOf}

-- the first tenth whose rows count at the end of an hour with the first tenth `first`: the begin of the cycle that is open there, as far as it is in the hour; the end where none is
abbrev pub counts_from : ℕ → Option OpenCycle → ℕ
counts_from first None = min (first + 36000) (2 ^ 32 - 1)
counts_from first (Some y) = max y.from first

-- these are the rows and stretches of the hour, where the others are the known rows before it, and at the known tenths among these the detectors' rows are the arrivals
pub record ArePassingRows (known : ℕ → Bool) (c : Settings) (before : List Row) (hour : ℕ) (s : PassingRows) : Type 0 where
  pub is_hour : IsHour known hour s.rows.now s.stretches.now
  pub ordered : AreOrdered 0 (point hour) before
  pub earlier : All (λ x. x.at < point hour) before
  pub in_order : AreOrdered (point hour) (point hour + 36000) s.passing.now
  pub arrivals : (d : ℕ) → has_detector c d ≡ true → ons_of d (known_rows known s.passing.now) ≡ ons_of d (arrivals_from known before (known_rows known s.rows.now))
  pub first : s.first ≡ point hour

-- what crosses the point after the hour of an approach, where the cuts are the hour's and this crosses the point before it
abbrev pub IsNextCrossing : PassingRows → CutLists → Approach → Crossing → Crossing → Type 0
IsNextCrossing s cuts a old new =
    (known : ℕ → Bool) (c : Settings) (before : List Row) (hour : ℕ) → ArePassingRows known c before hour s → IsCut known c.phases before hour s.rows.now cuts → IsOwnOf c a
    → old ≡ crossing_of known (point hour) before a → new ≡ crossing_of known (point (hour + 1)) (before ++ known_rows known s.rows.now) a

-- of all approaches
abbrev pub CrossNext : Settings → PassingRows → CutLists → List Crossing → List Crossing → Type 0
CrossNext c s cuts old new =
    (known : ℕ → Bool) (before : List Row) (hour : ℕ) → ArePassingRows known c before hour s → IsCut known c.phases before hour s.rows.now cuts → old ≡ map (crossing_of known (point hour) before) c.approaches
    → new ≡ map (crossing_of known (point (hour + 1)) (before ++ known_rows known s.rows.now)) c.approaches
