-- Arrivals at the stop bar: those at a detector ahead of it, a travel time later.
use Rattle.std.specs.Prelude.{ℕ, ◌+◌, nat_le, Bool, List, [], map, filter, ◌++◌, ◌||◌}
use Rattle.sig_base.specs.declared.values.Row.{Row}
use Rattle.arrival_measures.specs.Arrivals.{ons_of}
use Rattle.arrival_measures.specs.Faults.{arrivals_from}
use Rattle.arrival_measures.specs.Green.{begins_green, ends_green}

-- the arrivals at detector d among all these known rows, each as a row at its arrival tenth, v tenths after the detector's row
unfoldable pub arrivals_at : (ℕ → Bool) → ℕ → ℕ → List Row → List Row
arrivals_at known d v rows = map (λ (x : Row). record x { at = x.at + v }) (ons_of d (arrivals_from known [] rows))

-- what the known rows tell of arrivals in the cycles of phase p: its begins and ends of green, and the arrivals at their arrival tenths
unfoldable pub told : (ℕ → Bool) → ℕ → ℕ → ℕ → List Row → List Row
told known p d v rows = filter (λ x. begins_green p x || ends_green p x) rows ++ arrivals_at known d v rows

-- ---- For contracts alone: the same in parts.

-- an arrival as a row at its arrival tenth, v tenths after the detector's row
abbrev pub shifted : ℕ → Row → Row
shifted v x = record { at = x.at + v; code = x.code; param = x.param }

-- the rows at tenth t or later
abbrev pub from_tenth : ℕ → List Row → List Row
from_tenth t rows = filter (λ x. nat_le t x.at) rows
