-- The rows that begin or end green.
use Rattle.std.specs.Prelude.{ℕ, Bool, ◌==◌, ◌||◌, List, filter}
use Rattle.sig_base.specs.declared.values.Row.{Row}
use Rattle.arrival_measures.specs.Green.{begins_green, ends_green}

-- the row begins or ends green of phase p
abbrev pub turns_green : ℕ → Row → Bool
turns_green p x = begins_green p x || ends_green p x

-- it has the code of such a row: 1, 7 or 8
abbrev pub is_turn : Row → Bool
is_turn x = x.code == 1 || (x.code == 7 || x.code == 8)

abbrev pub turns_of : List Row → List Row
turns_of rows = filter is_turn rows
