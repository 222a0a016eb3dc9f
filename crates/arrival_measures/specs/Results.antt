-- What the calls of an hour give, whatever is known and whatever rows came before.
use Rattle.std.specs.Prelude.{ℕ, ◌≡◌, ◌+◌, ◌++◌, Bool, List, [], Option, Some, None, map}
use Rattle.sig_base.specs.declared.values.Row.{Row}
use Rattle.gap_map.specs.declared.stretch.Stretch.{Stretch}
use Rattle.hour_sweep.specs.Rows.{known_rows}
use Rattle.hour_sweep.specs.Hours.{AreOrdered, IsHour, point}
use Rattle.service_cut.specs.Cut.{CutLists, IsCut}
use Rattle.reach.specs.Runs.{State}
use Rattle.board.specs.Logs.{HourLog}
use Rattle.board.specs.Verdicts.{MayPass}
use Rattle.ring_config.specs.Settings.{Settings}
use Rattle.ring_config.specs.declared.items.Approach.{Approach}
use Rattle.arrival_measures.specs.declared.ahead.ApproachHour.{ApproachHour}
use Rattle.arrival_measures.specs.declared.carry.Crossing.{Crossing}
use Rattle.arrival_measures.specs.declared.faults.Detections.{Detections}
use Rattle.arrival_measures.specs.declared.sources.Sources.{Sources}
use Rattle.arrival_measures.specs.declared.sums.ArrivalSum.{ArrivalSum}
use Rattle.arrival_measures.specs.Crossing.{CarryParts, IsCarry, crossing_of}
use Rattle.arrival_measures.specs.Hours.{AreAllJudged, HasJudged, HaveCycles, IsUnheld}
use Rattle.arrival_measures.specs.Own.{turns_of}
use Rattle.arrival_measures.specs.Steps.{AreDetections, AreGiven, AreSources, IsHourOf, IsOwnOf}
use Rattle.arrival_measures.specs.Views.{IsSeen}

-- ---- what an hour is judged by

-- the view is one of this hour; without a view the hour has no rows, and no tenth of it is known
abbrev pub IsJudgedBy : Settings → Option HourLog → (ℕ → Bool) → List Row → List Stretch → ℕ → Option HourLog → Type 0
IsJudgedBy c (Some view) known rows ss hour (Some log) = IsSeen c view rows ss log
IsJudgedBy c None known [] ss hour None = IsUnheld known hour
IsJudgedBy c _ known _ ss hour _ = ⊥

-- the states that the channel with a place may have at the end of a tenth, in the hour that is seen; where none is, nothing is judged
abbrev pub may_by : Option HourLog → ℕ → ℕ → State → Type 0
may_by (Some log) = λ i t v. MayPass log t i v
may_by None = λ _ _ _. ⊥

-- ---- an approach in an hour

-- what the hour gives of an approach, where the cuts are the hour's and this crosses the point before it
abbrev pub IsApproachHour : Sources → CutLists → Approach → Crossing → ApproachHour → Type 0
IsApproachHour s cuts a crossing h =
    (known : ℕ → Bool) (c : Settings) (before rows : List Row) (hour : ℕ) → AreSources known c before rows hour s → IsCut known c.phases before hour rows cuts → IsOwnOf c a
    → crossing ≡ crossing_of known (point hour) before a → IsHourOf known c before (known_rows known rows) hour a h

-- its numbers, judged by the view of the hour
abbrev pub IsSeenSum : Settings → HourLog → Sources → Approach → ApproachHour → ArrivalSum → Type 0
IsSeenSum c view s a h sum =
    (known : ℕ → Bool) (before rows : List Row) (hour : ℕ) (log : HourLog) → AreSources known c before rows hour s → IsSeen c view rows s.stretches.now log
    → IsHourOf known c before (known_rows known rows) hour a h → HasJudged (λ i t v. MayPass log t i v) known c before (known_rows known rows) hour a sum

-- the same of an hour without rows of which no tenth is known
abbrev pub IsUnseenSum : Settings → Sources → Approach → ApproachHour → ArrivalSum → Type 0
IsUnseenSum c s a h sum =
    (known : ℕ → Bool) (before : List Row) (hour : ℕ) → AreSources known c before [] hour s → IsUnheld known hour → IsHourOf known c before [] hour a h → HasJudged (λ _ _ _. ⊥) known c before [] hour a sum

-- its numbers either way: by the view if there is one
abbrev pub IsSumBy : Settings → Option HourLog → Sources → Approach → ApproachHour → ArrivalSum → Type 0
IsSumBy c view s a h sum =
    (known : ℕ → Bool) (before rows : List Row) (hour : ℕ) (log : Option HourLog) → AreSources known c before rows hour s → IsJudgedBy c view known rows s.stretches.now hour log
    → IsHourOf known c before (known_rows known rows) hour a h → HasJudged (may_by log) known c before (known_rows known rows) hour a sum

-- ---- all approaches, from the hour's rows in chains, what crosses the point before it, and its cuts

-- the hour's rows in chains
abbrev pub AreChained : Settings → Detections → List Row → List Stretch → Sources → Type 0
AreChained c found turns ss s =
    (known : ℕ → Bool) (before rows : List Row) (hour : ℕ) → turns ≡ turns_of rows → IsHour known hour rows ss → AreOrdered 0 (point hour) before → AreDetections known c before (known_rows known rows) found
    → AreSources known c before rows hour s

-- their numbers, by the view if there is one
abbrev pub AreSumsBy : Settings → Option HourLog → Sources → List Crossing → CutLists → List ArrivalSum → Type 0
AreSumsBy c view s crossings cuts sums =
    (known : ℕ → Bool) (before rows : List Row) (hour : ℕ) (log : Option HourLog) → AreGiven known c before rows hour s crossings cuts → IsJudgedBy c view known rows s.stretches.now hour log
    → AreAllJudged (may_by log) known c before (known_rows known rows) hour sums

abbrev pub HaveGivenCycles : Settings → Sources → List Crossing → CutLists → List ArrivalSum → Type 0
HaveGivenCycles c s crossings cuts sums =
    (known : ℕ → Bool) (before rows : List Row) (hour : ℕ) → AreGiven known c before rows hour s crossings cuts → HaveCycles known c before (known_rows known rows) sums

-- what crosses the point after the hour
abbrev pub AreNextCrossings : Settings → Sources → List Crossing → CutLists → List Crossing → Type 0
AreNextCrossings c s crossings cuts new =
    (known : ℕ → Bool) (before rows : List Row) (hour : ℕ) → AreGiven known c before rows hour s crossings cuts → new ≡ map (crossing_of known (point (hour + 1)) (before ++ known_rows known rows)) c.approaches

-- ---- the calls: the carry has what crosses the point before the hour, and the cuts are the hour's

-- the numbers of an hour with these rows and stretches, judged by the view of it
abbrev pub AreHourSums : Settings → HourLog → List Row → List Stretch → CarryParts → CutLists → List ArrivalSum → Type 0
AreHourSums c view rows ss carry cuts sums =
    (known : ℕ → Bool) (before : List Row) (hour : ℕ) (log : HourLog) → IsHour known hour rows ss → IsCarry known c before hour carry → IsCut known c.phases before hour rows cuts → IsSeen c view rows ss log
    → AreAllJudged (λ i t v. MayPass log t i v) known c before (known_rows known rows) hour sums

-- those of either hour: by the view if there is one
abbrev pub AreHourSumsBy : Settings → Option HourLog → List Row → List Stretch → CarryParts → CutLists → List ArrivalSum → Type 0
AreHourSumsBy c view rows ss carry cuts sums =
    (known : ℕ → Bool) (before : List Row) (hour : ℕ) (log : Option HourLog) → IsHour known hour rows ss → IsCarry known c before hour carry → IsCut known c.phases before hour rows cuts → IsJudgedBy c view known rows ss hour log
    → AreAllJudged (may_by log) known c before (known_rows known rows) hour sums

-- their whole cycles are those that end in the hour
abbrev pub HaveHourCycles : Settings → List Row → List Stretch → CarryParts → CutLists → List ArrivalSum → Type 0
HaveHourCycles c rows ss carry cuts sums =
    (known : ℕ → Bool) (before : List Row) (hour : ℕ) → IsHour known hour rows ss → IsCarry known c before hour carry → IsCut known c.phases before hour rows cuts
    → HaveCycles known c before (known_rows known rows) sums

-- the new carry has what crosses the point after the hour
abbrev pub IsCarriedOn : Settings → List Row → List Stretch → CutLists → CarryParts → CarryParts → Type 0
IsCarriedOn c rows ss cuts old new =
    (known : ℕ → Bool) (before : List Row) (hour : ℕ) → IsHour known hour rows ss → IsCarry known c before hour old → IsCut known c.phases before hour rows cuts
    → IsCarry known c (before ++ known_rows known rows) (hour + 1) new
