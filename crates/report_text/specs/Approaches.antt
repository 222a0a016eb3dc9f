-- The lines of approaches, and of diagrams.
use Rattle.std.specs.Prelude.{◌++◌, ◌+◌, ◌*◌, ◌-◌, ◌==◌, if◌then◌else◌, ℕ, Bool, List, [], ◌∷◌, codes, decimal, Option, is_some, slice_get, flat_map}
use Rattle.std.specs.Option.{option_map_or}
use Rattle.sig_base.specs.Window.{Span}
use Rattle.sig_base.specs.Stamp.{stamp_at}
use Rattle.service_cut.specs.declared.items.Cycle.{Cycle}
use Rattle.ring_config.specs.Settings.{Settings}
use Rattle.ring_config.specs.declared.items.Approach.{Approach}
use Rattle.split_measures.specs.declared.failures.SplitSum.{SplitSum}
use Rattle.arrival_measures.specs.declared.sums.ArrivalSum.{ArrivalSum}
use Rattle.arrival_measures.specs.declared.points.Point.{Point}
use Rattle.arrival_measures.specs.declared.points.Diagram.{Diagram}
use Rattle.report_text.specs.Line.{line_of, num}
use Rattle.report_text.specs.Rules.{joined}

-- a fraction as it is printed: not reduced, and `-` where its denominator is 0
abbrev pub fraction : ℕ → ℕ → List ℕ
fraction top bottom = if bottom == 0 then codes "-" else decimal top ++ num "/" bottom

-- the line of an approach's arrivals: how many came, what the phase showed, how many came unseen, and how often the detector went on in a fault; the share on green of the arrivals that are seen; and the platoon ratio, by which arrivals in whole cycles are more on green than an even stream would be
abbrev pub arrivals_line : List ℕ → ArrivalSum → List ℕ
arrivals_line name s =
    line_of (codes "approach " ∷ name ∷ num " arrivals " s.arrivals ∷ num " green " s.green ∷ num " not " s.not_green ∷ num " undecided " s.undecided
    ∷ num " unseen " s.unseen ∷ num " fault " s.fault ∷ codes " share " ∷ fraction s.green (s.arrivals - s.unseen)
    ∷ codes " platoon " ∷ fraction (s.cycle_green * s.cycle_tenths) (s.cycle_arrivals * s.green_tenths) ∷ [])

-- the line of the actuations at an approach's stop bar: how many came on red, and how many in a fault of the detector
abbrev pub actuations_line : List ℕ → ArrivalSum → List ℕ
actuations_line name s =
    line_of (codes "approach " ∷ name ∷ num " actuations " s.actuations ∷ num " red " s.red ∷ num " not " s.not_red ∷ num " undecided " s.red_undecided ∷ num " fault " s.red_fault ∷ [])

-- the line of the services at an approach's stop bar: how many there are, and by their verdicts as split failures
abbrev pub splits_line : List ℕ → SplitSum → List ℕ
splits_line name f =
    line_of (codes "approach " ∷ name ∷ num " splits " (f.fail + f.pass + f.undecided + f.left_open + f.fault)
    ∷ num " fail " f.fail ∷ num " pass " f.pass ∷ num " undecided " f.undecided ∷ num " open " f.left_open ∷ num " fault " f.fault ∷ [])

-- the lines of an approach: of its advance detector, and of its stop bar detector, where it has them
abbrev pub approach_text : Approach → ArrivalSum → SplitSum → List ℕ
approach_text a s f =
    (if is_some a.advance then arrivals_line a.name s else []) ++ (if is_some a.stop_bar then actuations_line a.name s ++ splits_line a.name f else [])

-- the lines of the approaches, each with its own sums, in file order
abbrev pub approaches_text : List Approach → List ArrivalSum → List SplitSum → List ℕ
approaches_text (a ∷ more) (s ∷ ss) (f ∷ fs) = approach_text a s f ++ approaches_text more ss fs
approaches_text _ _ _ = []

-- ---- diagrams

-- the line of an arrival in a diagram: its approach, and when in the cycle it came
abbrev pub point_line : Settings → Point → List ℕ
point_line c x = line_of (codes "point " ∷ option_map_or (λ a. a.name) (slice_get c.approaches x.approach) [] ∷ num " " x.offset ∷ [])

-- the line of a cycle in a diagram: when it began, how long it was, and when in it green and yellow began
abbrev pub cycle_line : Span → Cycle → List ℕ
cycle_line w x = line_of (codes "cycle " ∷ stamp_at w x.from ∷ num " length " (x.to - x.from) ∷ num " green " x.green ∷ num " yellow " x.yellow ∷ [])

-- the diagrams one after another: the line of each cycle, and those of its points in their order
abbrev pub diagrams_text : Settings → List Diagram → List ℕ
diagrams_text c ds = flat_map (λ d. cycle_line c.window d.cycle ++ flat_map (point_line c) d.points) ds

-- ---- For contracts alone: parts of these texts as the code writes them

-- the line of an approach's arrivals up to its two fractions
abbrev pub arrival_counts : List ℕ → ArrivalSum → List ℕ
arrival_counts name s =
    joined (codes "approach " ∷ name ∷ num " arrivals " s.arrivals ∷ num " green " s.green ∷ num " not " s.not_green ∷ num " undecided " s.undecided
    ∷ num " unseen " s.unseen ∷ num " fault " s.fault ∷ [])

-- its two fractions
abbrev pub arrival_shares : ArrivalSum → List ℕ
arrival_shares s =
    line_of (codes " share " ∷ fraction s.green (s.arrivals - s.unseen) ∷ codes " platoon " ∷ fraction (s.cycle_green * s.cycle_tenths) (s.cycle_arrivals * s.green_tenths) ∷ [])

-- the text, where there is something to print
abbrev pub line_if : Bool → List ℕ → List ℕ
line_if there text = if there then text else []

-- how many services there were at a stop bar
abbrev pub all_splits : SplitSum → ℕ
all_splits f = f.fail + f.pass + f.undecided + f.left_open + f.fault

-- the lines of a stop bar detector
abbrev pub stop_bar_text : Approach → ArrivalSum → SplitSum → List ℕ
stop_bar_text a s f = line_if (is_some a.stop_bar) (actuations_line a.name s ++ splits_line a.name f)

-- the lines of a cycle and of its points in their order
abbrev pub diagram_text : Settings → Diagram → List ℕ
diagram_text c d = cycle_line c.window d.cycle ++ flat_map (point_line c) d.points

-- the name of an approach, if there is one
abbrev pub name_of : Option Approach → List ℕ
name_of o = option_map_or (λ a. a.name) o []
