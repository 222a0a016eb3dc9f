-- The best shift of an approach of a store.
use Rattle.std.specs.Prelude.{ℕ, ◌-◌, ◌==◌, ◌&&◌, nat_le, if◌then◌else◌, List, [], ◌∷◌, length, flat_map, slice_get, Bool, Option, Some, None, is_some, option_and_then}
use Rattle.hour_store.specs.Store.{Store, is_known, known_rows}
use Rattle.ring_config.specs.Settings.{Settings, approach_place}
use Rattle.service_cut.specs.declared.items.Cycle.{Cycle}
use Rattle.arrival_measures.specs.declared.points.Diagram.{Diagram}
use Rattle.arrival_measures.specs.declared.points.Point.{Point}
use Rattle.arrival_measures.specs.Points.{diagrams_of}
use Rattle.offset_search.specs.declared.arrival.Arrival.{Arrival}
use Rattle.offset_search.specs.Shifted.{counts_of}
use Rattle.report_text.specs.declared.refusal.Refusal.TheVariants.{BadLine}
use Rattle.report_text.specs.Shifts.{shifts_text}
use Rattle.sigaudit.specs.Turns.{Turn, refuses, writes}

-- the place and the phase of the approach of this name, where it has an advance detector
abbrev pub advance_of : Settings → List ℕ → Option (ℕ × ℕ)
advance_of c name =
    option_and_then (λ place. option_and_then (λ a. if is_some a.advance then Some (place, a.phase) else None) (slice_get c.approaches place)) (approach_place c.approaches name)

-- a point of a cycle as an arrival that may be shifted, where it is one at the approach of this place
abbrev pub arrivals_at : ℕ → Cycle → Point → List Arrival
arrivals_at place x p = if p.approach == place then record { length = x.to - x.from; green = x.green; yellow = x.yellow; offset = p.offset } ∷ [] else []

-- the arrivals in a diagram at this approach; none where its cycle isn't 1 to 3,000 tenths long, or its green is later than its yellow
abbrev pub arrivals_in : ℕ → Diagram → List Arrival
arrivals_in place d =
    if (nat_le 1 (d.cycle.to - d.cycle.from) && nat_le (d.cycle.to - d.cycle.from) 3000) && nat_le d.cycle.green d.cycle.yellow
    then flat_map (arrivals_at place d.cycle) d.points else []

-- the arrivals of an approach, by its place and its phase, in the whole cycles of a store
abbrev pub store_arrivals : Settings → Store → ℕ × ℕ → List Arrival
store_arrivals c s at = flat_map (arrivals_in at.0) (diagrams_of (is_known s) c at.1 (known_rows s))

-- the turn of a line that asks for the shifts of the approach of this name, by its place and its phase: all shifts, and the best of them; a name that is no approach with an advance detector makes a bad line
abbrev pub offsets_turn : Settings → ℕ → List ℕ → Store → Option (ℕ × ℕ) → Turn
offsets_turn c n name s None = refuses c n BadLine s
offsets_turn c n name s (Some at) = writes (shifts_text n name (counts_of (store_arrivals c s at)) (length (store_arrivals c s at))) s

-- ---- For contracts alone

-- a cycle is taken that is 1 to 3,000 tenths long and whose green isn't later than its yellow
abbrev pub is_taken : Cycle → Bool
is_taken x = (nat_le 1 (x.to - x.from) && nat_le (x.to - x.from) 3000) && nat_le x.green x.yellow

-- a point of a cycle as an arrival that may be shifted
abbrev pub arrival_of : Cycle → Point → Arrival
arrival_of x p = record { length = x.to - x.from; green = x.green; yellow = x.yellow; offset = p.offset }

-- the arrivals in these diagrams at this approach
abbrev pub arrivals_of : ℕ → List Diagram → List Arrival
arrivals_of place ds = flat_map (arrivals_in place) ds

-- the text of all shifts of these arrivals, and the best of them
abbrev pub offsets_text : ℕ → List ℕ → List Arrival → List ℕ
offsets_text n name arrivals = shifts_text n name (counts_of arrivals) (length arrivals)

-- the turn of a line that asks for the shifts of the approach of this name
abbrev pub offsets_of : Settings → ℕ → List ℕ → Store → Turn
offsets_of c n name s = offsets_turn c n name s (advance_of c name)
