-- The rows of an hour in row order: by their tenths, and those of one tenth as the file has them.
use Rattle.std.specs.Prelude.{◌==◌, ◌+◌, ◌*◌, ◌≤◌, ◌<◌, ℕ, zero, suc, List, [], ◌∷◌, ◌++◌, filter, ⊤}
use Rattle.sig_base.specs.declared.values.Row.{Row}

-- the rows of so many tenths from this one on, tenth by tenth, and those of a tenth as the file has them
unfoldable pub rows_from : ℕ → ℕ → List Row → List Row
rows_from zero t rows = []
rows_from (suc n) t rows = filter (λ r. r.at == t) rows ++ rows_from n (t + 1) rows

-- the rows of an hour, tenth by tenth
abbrev pub in_row_order : ℕ → List Row → List Row
in_row_order hour rows = rows_from 36000 (36000 * hour) rows

-- each row is at one of these tenths, `to` left out
abbrev pub AreWithin : ℕ → ℕ → List Row → Type 0
AreWithin from to [] = ⊤
AreWithin from to (r ∷ rs) = (from ≤ r.at) × (r.at < to) × AreWithin from to rs

-- For contracts alone: the rows of tenth t, as the file has them.
abbrev pub rows_at : ℕ → List Row → List Row
rows_at t rows = filter (λ r. r.at == t) rows
