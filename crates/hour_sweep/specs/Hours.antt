-- Rows in order, and the rows and stretches of an hour.
use Rattle.std.specs.Prelude.{ℕ, ◌+◌, ◌*◌, ◌≤◌, ◌<◌, Bool, List, [], ◌∷◌}
use Rattle.sig_base.specs.declared.values.Row.{Row}
use Rattle.sig_base.specs.HourRows.{AreRowsOf}
use Rattle.gap_map.specs.declared.stretch.Stretch.{Stretch}
use Rattle.gap_map.specs.Stretches.{AreStretches}

-- the rows stand in order by tenth, the first not before a and all before b
abbrev pub AreOrdered : ℕ → ℕ → List Row → Type 0
AreOrdered a b [] = a ≤ b
AreOrdered a b (x ∷ xs) = (a ≤ x.at) × (x.at < b) × AreOrdered x.at b xs

-- the tenth at point k, which is the first of hour k
abbrev pub point : ℕ → ℕ
point k = 36000 * k

-- these are rows of the hour, and its stretches by what is known
pub record IsHour (known : ℕ → Bool) (hour : ℕ) (rows : List Row) (ss : List Stretch) : Type 0 where
  pub are_rows : AreRowsOf hour rows
  pub are_stretches : AreStretches known (point hour) (point hour + 36000) ss
