-- What the steps of an hour owe one another.
use Rattle.std.specs.Prelude.{ℕ, ◌≡◌, ◌↔◌, ◌≤◌, ◌<◌, ◌+◌, ◌-◌, ◌^◌, ◌==◌, ◌&&◌, ◌||◌, ◌++◌, min, not, nat_lt, Bool, true, false, if◌then◌else◌, IsTrue, IfSome, List, [], ◌∷◌, Option, Some, None, All, filter, length, map, slice_index_or}
use Rattle.std.specs.List.{list_all, range_with_len}
use Rattle.std.specs.Global.{Vec}
use Rattle.sig_base.specs.declared.values.Row.{Row}
use Rattle.sig_base.specs.Numbers.{has_phase}
use Rattle.event_codes.specs.declared.channels.Kind.TheVariants.{Detector}
use Rattle.colour_machine.specs.Mask.{Has}
use Rattle.reach.specs.Runs.{State}
use Rattle.reach.specs.declared.seen.Seen.{Seen}
use Rattle.gap_map.specs.declared.stretch.Stretch.{Stretch}
use Rattle.gap_map.specs.Stretches.{AreStretches, known_at}
use Rattle.board.specs.Logs.{HourLog, no_row}
use Rattle.board.specs.Verdicts.{MayPass}
use Rattle.hour_sweep.specs.Sums.{capped, one_if}
use Rattle.hour_sweep.specs.Rows.{known_rows}
use Rattle.hour_sweep.specs.Hours.{AreOrdered, IsHour, point}
use Rattle.hour_sweep.specs.Passes.{front, back}
use Rattle.service_cut.specs.declared.items.Cycle.{Cycle}
use Rattle.service_cut.specs.declared.items.OpenCycle.{OpenCycle}
use Rattle.service_cut.specs.Cut.{CutLists, IsCut}
use Rattle.ring_config.specs.Settings.{Settings, is_tracked_as, spec_place}
use Rattle.ring_config.specs.declared.items.Approach.{Approach}
use Rattle.arrival_measures.specs.declared.open.Open.{Open}
use Rattle.arrival_measures.specs.Arrivals.{ons_of}
use Rattle.arrival_measures.specs.Opens.{open_at}
use Rattle.arrival_measures.specs.Own.{turns_of}
use Rattle.arrival_measures.specs.declared.carry.Crossing.{Crossing}
use Rattle.arrival_measures.specs.declared.faults.Flag.{Flag}
use Rattle.arrival_measures.specs.declared.faults.Detection.{Detection}
use Rattle.arrival_measures.specs.declared.faults.Detections.{Detections}
use Rattle.arrival_measures.specs.declared.sources.Sources.{Sources}
use Rattle.arrival_measures.specs.declared.ahead.ApproachHour.{ApproachHour}
use Rattle.arrival_measures.specs.declared.judged.Judged.{Judged}
use Rattle.arrival_measures.specs.declared.cycles.CycleSum.{CycleSum}
use Rattle.arrival_measures.specs.declared.sums.ArrivalSum.{ArrivalSum}
use Rattle.arrival_measures.specs.Faults.{arrivals_from, begins_fault, faults_from, faulty, is_own}
use Rattle.arrival_measures.specs.Travel.{arrivals_at, from_tenth}
use Rattle.arrival_measures.specs.Crossing.{all_flags, crossing_of, flags_of, has_detector, open_since}
use Rattle.arrival_measures.specs.Judged.{AllPass, NonePass, OnlySomePass, CountOf, phase_channel}
use Rattle.arrival_measures.specs.Cycles.{CycleNumbers}
use Rattle.arrival_measures.specs.Hours.{cycle_numbers, is_last, is_seen}
use Rattle.arrival_measures.specs.Views.{IsSeen}

-- ---- detections

-- the flag of a detector after a row of its number, and after an unknown tenth
abbrev pub flag_after : Row → Flag → Flag
flag_after x f = record { fault = if is_own x.code then begins_fault x.code else f.fault }

abbrev pub flag_cleared : Flag → Flag
flag_cleared f = record { fault = false }

-- what a row of its number gives, by the flag before it and by the rows before it
abbrev pub detected_by : Row → Flag → Option Detection
detected_by x f = if x.code == 82 then Some (record { row = x; fault = f.fault }) else None

abbrev pub detected_at : (ℕ → Bool) → ℕ → List Row → Row → List Row → Option Detection
detected_at known d before x rest = if x.code == 82 then Some (record { row = x; fault = faulty known x.at before d }) else None

abbrev pub arrival_in : Detection → Option Row
arrival_in one = if one.fault then None else Some one.row

abbrev pub fault_in : Detection → Option Row
fault_in one = if one.fault then Some one.row else None

-- those of the rows whose detector is one of an approach
abbrev pub of_approaches : Settings → List Row → List Row
of_approaches c rows = filter (λ x. has_detector c x.param) rows

-- the flags that an hour gives, or those before it where it gives none
abbrev pub flags_in : List (Option Flag) → Option (Vec (Option Flag)) → List (Option Flag)
flags_in old None = old
flags_in old (Some new) = new.items

-- these are the detections of an hour with these known rows, where the first rows stand before them
pub record AreDetections (known : ℕ → Bool) (c : Settings) (before rows : List Row) (d : Detections) : Type 0 where
  pub arrivals : d.arrivals.items ≡ of_approaches c (arrivals_from known before rows)
  pub faults : d.faults.items ≡ of_approaches c (faults_from known before rows)

-- where the one table has the flags at the point before the hour, the other has those at the point after it
abbrev pub FlagsGoOn : List Row → List Stretch → List (Option Flag) → List (Option Flag) → Type 0
FlagsGoOn rows ss old new = (known : ℕ → Bool) (c : Settings) (before : List Row) (hour : ℕ) → IsHour known hour rows ss → All (λ x. x.at < point hour) before → all_flags old ≡ flags_of known c (point hour) before → all_flags new ≡ flags_of known c (point (hour + 1)) (before ++ known_rows known rows)

-- the flag, where there is one, tells of no fault
abbrev pub is_clear : Option Flag → Bool
is_clear None = true
is_clear (Some f) = not f.fault

-- the hour gives no detection and changes no flag: no row is one of a detector, and each tenth is known or no flag tells of a fault
abbrev pub is_quiet : List (Option Flag) → List Row → List Stretch → Bool
is_quiet flags rows ss = list_all (λ x. not (is_own x.code)) rows && (list_all (λ s. s.known) ss || list_all is_clear flags)

-- the row begins no fault of a detector
abbrev pub is_harmless : Row → Bool
is_harmless x = not (is_own x.code && begins_fault x.code)

-- no detector is sure to have a fault at any row of the hour: no flag tells of a fault, and no row begins one
abbrev pub is_faultless : List (Option Flag) → List Row → Bool
is_faultless flags rows = list_all is_clear flags && list_all is_harmless rows

-- ---- the hour of an approach

-- what is told of an approach: its phase and its detectors are configured
pub record IsOwnOf (c : Settings) (a : Approach) : Type 0 where
  pub phase : has_phase c.phases a.phase ≡ true
  pub advance : IfSome a.advance (λ d. has_detector c d ≡ true)
  pub stop_bar : IfSome a.stop_bar (λ d. has_detector c d ≡ true)
  pub travel : a.travel ≤ 300

-- and its phase has this place among the specs
pub record IsOwnAt (c : Settings) (a : Approach) (place : ℕ) : Type 0 where
  pub own : IsOwnOf c a
  pub is_place : spec_place c.specs (phase_channel a.phase) ≡ Some place

-- from these the numbers of an hour with these rows are, where these are the known rows before it
pub record AreSources (known : ℕ → Bool) (c : Settings) (before rows : List Row) (hour : ℕ) (s : Sources) : Type 0 where
  pub is_hour : IsHour known hour rows s.stretches.now
  pub ordered : AreOrdered 0 (point hour) before
  pub earlier : All (λ x. x.at < point hour) before
  pub turns : s.turns ≡ turns_of rows
  pub arrivals : s.arrivals ≡ of_approaches c (arrivals_from known before (known_rows known rows))
  pub faults : s.faults ≡ of_approaches c (faults_from known before (known_rows known rows))
  pub first : s.first ≡ point hour
  pub last : s.last ≡ is_last c hour

-- what crosses the point before the hour is this, and its cuts are these
pub record AreGiven (known : ℕ → Bool) (c : Settings) (before rows : List Row) (hour : ℕ) (s : Sources) (crossings : List Crossing) (cuts : CutLists) : Type 0 where
  pub sources : AreSources known c before rows hour s
  pub cut : IsCut known c.phases before hour rows cuts
  pub crossings_are : crossings ≡ map (crossing_of known (point hour) before) c.approaches

-- those of the rows at which the detector goes on, where there is one
abbrev pub rows_with : List Row → Option ℕ → List Row
rows_with rows None = []
rows_with rows (Some d) = ons_of d rows

-- nothing crosses
abbrev pub no_crossing : Crossing
no_crossing = record { begun = None; pending = [] }

-- at the window's start no detector of an approach has a fault
abbrev pub no_flag : Settings → ℕ → Option Flag
no_flag c d = if is_tracked_as c Detector d then Some (record { fault = false }) else None

abbrev pub no_flags : Settings → List (Option Flag)
no_flags c = map (no_flag c) (range_with_len 0 129)

-- an arrival at detector d, at its arrival tenth
abbrev pub row_on : ℕ → ℕ → Row
row_on d t = record { at = t; code = 82; param = d }

-- so many tenths later, but not past the last number
abbrev pub moved : ℕ → Row → Row
moved v x = record { at = min (x.at + v) (2 ^ 32 - 1); code = x.code; param = x.param }

-- the rows of two lists by tenth, at one tenth those of the first list first
abbrev pub merged : List Row → List Row → List Row
merged [] ys = ys
merged (x ∷ xs) ys = front x.at ys ++ x ∷ merged xs (back x.at ys)

-- the arrivals of an approach at tenth t or later, at its advance detector
abbrev pub arriving_with : (ℕ → Bool) → ℕ → List Row → Approach → Option ℕ → List Row
arriving_with known t rows a None = []
arriving_with known t rows a (Some d) = from_tenth t (arrivals_at known d a.travel rows)

-- those of rows by tenth that count, in the hour that ends at this tenth
abbrev pub due_of : Bool → ℕ → List Row → List Row
due_of last end rows = filter (λ x. last || nat_lt x.at end) rows

-- ---- judged rows

-- stands where a list has no stretch
abbrev pub no_stretch : Stretch
no_stretch = record { from = 0; to = 0; known = false }

-- of the stretches, up to tenth b, the one with this place tells whether tenth t is known; one from b on isn't
abbrev pub IsPlaceAt : List Stretch → ℕ → ℕ → Type 0
IsPlaceAt ss t i = (known : ℕ → Bool) (a b : ℕ) → AreStretches known a b ss → a ≤ t → (slice_index_or ss i no_stretch).known ≡ (known t && nat_lt t b)

-- the colours are those that pass the test
abbrev pub IsMaskOf : (ℕ → Bool) → ℕ → Type 0
IsMaskOf test colours = (c : ℕ) → Has colours c ↔ (test c ≡ true)

-- what is seen of the states that may be says how their colours pass the test
pub record Says (test : ℕ → Bool) (May : State → Type 0) (seen : Seen) : Type 0 where
  pub all : IsTrue (not seen.some_false) ↔ AllPass test May
  pub none : IsTrue (not seen.some_true) ↔ NonePass test May
  pub some : IsTrue (seen.some_true && seen.some_false) ↔ OnlySomePass test May

-- one row more, of which this is seen, and one of which nothing is
abbrev pub judged_with : Judged → Seen → Judged
judged_with j seen = record {
  rows = capped (j.rows + 1);
  all = capped (j.all + one_if (not seen.some_false));
  none = capped (j.none + one_if (not seen.some_true));
  some = capped (j.some + one_if (seen.some_true && seen.some_false));
  unseen = j.unseen;
}

abbrev pub judged_unseen : Judged → Judged
judged_unseen j = record { rows = capped (j.rows + 1); all = j.all; none = j.none; some = j.some; unseen = capped (j.unseen + 1) }

abbrev pub no_judged : Judged
no_judged = record { rows = 0; all = 0; none = 0; some = 0; unseen = 0 }

-- these rows are judged, as far as they pass the test `sees`; May says which states may be at the end of a tenth
pub record AreJudgedRows (test : ℕ → Bool) (May : ℕ → State → Type 0) (sees : Row → Bool) (rows : List Row) (j : Judged) : Type 0 where
  pub count : j.rows ≡ capped (length rows)
  pub all : CountOf (λ x. AllPass test (May x.at)) (filter sees rows) j.all
  pub none : CountOf (λ x. NonePass test (May x.at)) (filter sees rows) j.none
  pub some : CountOf (λ x. OnlySomePass test (May x.at)) (filter sees rows) j.some
  pub unseen : j.unseen ≡ capped (length (filter (λ x. not (sees x)) rows))

-- by the view of an hour these rows, none before its first tenth, are judged by whether the channel with this place has one of the colours
abbrev pub JudgesRows : HourLog → List Stretch → ℕ → ℕ → List Row → Judged → Type 0
JudgesRows view ss spec colours rows j = (known : ℕ → Bool) (hour : ℕ) (c : Settings) (all : List Row) (log : HourLog) (test : ℕ → Bool) → IsHour known hour all ss → IsSeen c view all ss log → IsMaskOf test colours → All (λ x. point hour ≤ x.at) rows → AreJudgedRows test (λ t v. MayPass log t spec v) (is_seen known hour) rows j

-- the row is a known one of the hour, with this number among its rows
pub record IsKnownRow (log : HourLog) (n : ℕ) (x : Row) : Type 0 where
  pub within : n < length log.rows
  pub is : x ≡ slice_index_or log.rows n no_row
  pub is_known : known_at log.stretches x.at ≡ true

-- ---- whole cycles

abbrev pub numbers_in : CycleSum → CycleNumbers
numbers_in s = record { arrivals = s.arrivals; green = s.green; green_tenths = s.green_tenths; tenths = s.tenths }

abbrev pub sum_with : CycleSum → Cycle → Open → CycleSum
sum_with s c o = record {
  arrivals = capped (s.arrivals + o.arrivals);
  green = capped (s.green + o.green);
  green_tenths = capped (s.green_tenths + o.green_tenths);
  tenths = capped (s.tenths + (c.to - c.from));
}

abbrev pub no_cycle : CycleSum
no_cycle = record { arrivals = 0; green = 0; green_tenths = 0; tenths = 0 }

abbrev pub sum_of : Judged → ℕ → Judged → ℕ → CycleSum → ArrivalSum
sum_of g fault r red_fault s = record {
  arrivals = g.rows;
  green = g.all;
  not_green = g.none;
  undecided = g.some;
  unseen = g.unseen;
  fault = fault;
  cycle_arrivals = s.arrivals;
  cycle_green = s.green;
  green_tenths = s.green_tenths;
  cycle_tenths = s.tenths;
  actuations = r.rows;
  red = r.all;
  not_red = r.none;
  red_undecided = r.some;
  red_fault = red_fault;
}

-- a cycle of phase p runs from tenth a up to tenth b, of an hour from tenth `first` on with these rows and these known rows before it, and what had begun of it before the hour is this
pub record IsUnderWay (known : ℕ → Bool) (p d : ℕ) (before rows : List Row) (first end : ℕ) (begun : Option Open) (a b : ℕ) : Type 0 where
  pub ordered : AreOrdered first end rows
  pub earlier : All (λ x. x.at < first) before
  pub order : a ≤ b
  pub later : first ≤ b
  pub all_known : (t : ℕ) → a ≤ t → t < b → known t ≡ true
  pub is_begun : a < first → begun ≡ Some (open_at p d a first before)

abbrev pub AreUnderWay : (ℕ → Bool) → ℕ → ℕ → List Row → List Row → ℕ → ℕ → Option Open → List Cycle → Type 0
AreUnderWay known p d before rows first end begun cycles = All (λ c. c.phase ≡ p → IsUnderWay known p d before rows first end begun c.from c.to) cycles

-- the rows of both lists give the same of these cycles of phase p
abbrev pub GiveSame : ℕ → ℕ → List Row → List Row → List Cycle → Type 0
GiveSame p d xs ys cycles = All (λ c. c.phase ≡ p → open_at p d c.from c.to xs ≡ open_at p d c.from c.to ys) cycles

-- the cycle that has begun at tenth t, where there is one, runs up to it
abbrev pub IsOpenUnderWay : (ℕ → Bool) → ℕ → ℕ → List Row → List Row → ℕ → ℕ → Option Open → ℕ → Option OpenCycle → Type 0
IsOpenUnderWay known p d before rows first end begun t o = IfSome o (λ y. IsUnderWay known p d before rows first end begun y.from t)

-- of the cycle that has begun at the end of an hour with the first tenth `first`, this has begun there, whatever was told before the hour
abbrev pub IsOpenAfter : ℕ → ℕ → Option Open → Option OpenCycle → List Row → ℕ → Option Open → Type 0
IsOpenAfter p d begun o rows first new = (known : ℕ → Bool) (before : List Row) (end to : ℕ) → to ≡ min (first + 36000) (2 ^ 32 - 1) → IsOpenUnderWay known p d before rows first end begun to o → new ≡ open_since p d to (before ++ known_rows known rows) o

-- a cycle of phase p runs from tenth a up to tenth b, each of them known, and what had begun of it before tenth `first` is this, by what was told before
pub record IsCycleOf (known : ℕ → Bool) (p d first : ℕ) (told : List Row) (begun : Option Open) (a b : ℕ) : Type 0 where
  pub order : a ≤ b
  pub later : first ≤ b
  pub all_known : (t : ℕ) → a ≤ t → t < b → known t ≡ true
  pub is_begun : a < first → begun ≡ Some (open_at p d a first told)

-- what an hour gives of an approach
pub record IsHourOf (known : ℕ → Bool) (c : Settings) (before seen : List Row) (hour : ℕ) (a : Approach) (h : ApproachHour) : Type 0 where
  pub arriving : h.arriving.items ≡ arriving_with known (point hour) (before ++ seen) a a.advance
  pub cycles : numbers_in h.cycles ≡ cycle_numbers known c before seen a a.advance
  pub crossing : h.crossing ≡ crossing_of known (point (hour + 1)) (before ++ seen) a
