-- Pedestrian delays, among the known rows in row order.
use Rattle.std.specs.Prelude.{ℕ, ◌==◌, Bool, if◌then◌else◌, ◌&&◌, List, Option, Some, None}
use Rattle.sig_base.specs.declared.values.Row.{Row}
use Rattle.other_measures.specs.declared.peds.Delay.{Delay}
use Rattle.other_measures.specs.declared.peds.PedPart.{PedPart}
use Rattle.other_measures.specs.LastRows.{last_row_of, lapse_of}

-- the row begins the walk of pedestrian signal p: code 21
unfoldable pub is_walk : ℕ → Row → Bool
is_walk p x = (x.param == p) && (x.code == 21)

-- the row is a call of pedestrian signal p: code 45
unfoldable pub is_call : ℕ → Row → Bool
is_call p x = (x.param == p) && (x.code == 45)

-- what is under way of pedestrian signal p at tenth t: its last begin of walk, where every tenth since is known, with the first call after it
abbrev pub ped_of : (ℕ → Bool) → ℕ → List Row → ℕ → PedPart
ped_of known t before p = record { number = p; walk = last_row_of (is_walk p) (is_call p) known t before }

-- the delay of p that row r gives, where these rows stand before it: from the first row 45 since the last row 21
unfoldable pub delay_at : (ℕ → Bool) → ℕ → List Row → Row → List Row → Option Delay
delay_at known p before r rest = if is_walk p r then Some (record { ped = p; wait = lapse_of r.at (last_row_of (is_walk p) (is_call p) known r.at before) }) else None
