-- Vehicles at detectors: rows of code 82, in row order.
use Rattle.std.specs.Prelude.{ℕ, ◌==◌, nat_le, nat_lt, Bool, ◌&&◌, List, filter}
use Rattle.sig_base.specs.declared.values.Row.{Row}

-- the row says that detector d goes on: code 82
abbrev pub is_on : ℕ → Row → Bool
is_on d x = x.code == 82 && x.param == d

-- the rows at which detector d goes on
abbrev pub ons_of : ℕ → List Row → List Row
ons_of d rows = filter (is_on d) rows

-- the rows at the tenths from a up to b
abbrev pub rows_within : ℕ → ℕ → List Row → List Row
rows_within a b rows = filter (λ x. nat_le a x.at && nat_lt x.at b) rows
