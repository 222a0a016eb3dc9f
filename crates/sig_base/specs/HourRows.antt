-- The rows of an hour.
use Rattle.std.specs.Prelude.{◌<◌, ◌≤◌, ◌+◌, ◌*◌, ℕ, List, [], ◌∷◌, length, ⊤}
use Rattle.sig_base.specs.declared.values.Row.{Row}

-- each row is in the hour, and none is before the one in front of it, where `from` is the least place for the next
abbrev pub RiseIn : ℕ → ℕ → List Row → Type 0
RiseIn from to [] = ⊤
RiseIn from to (r ∷ rs) = (from ≤ r.at) × (r.at < to) × RiseIn r.at to rs

-- these can be the rows of this hour
pub record AreRowsOf (hour : ℕ) (rows : List Row) : Type 0 where
  pub in_range : hour < 744
  pub few : length rows ≤ 400000
  pub rise : RiseIn (36000 * hour) (36000 * hour + 36000) rows

-- the rows of an hour in order, and how many repeats were left out of them
pub record Shown : Type 0 where
  pub hour : ℕ
  pub rows : List Row
  pub repeats : ℕ
