-- A last row of one kind, with the first row of another kind since.
use Rattle.std.specs.Prelude.{ℕ, ◌-◌, Bool, true, false, if◌then◌else◌, List, Option, Some, None, find}
use Rattle.sig_base.specs.declared.values.Row.{Row}
use Rattle.hour_sweep.specs.Rows.{last_with, live, ◌>>=◌}
use Rattle.other_measures.specs.declared.last_rows.LastRow.{LastRow}
use Rattle.other_measures.specs.declared.last_rows.Lapse.{Lapse}
use Rattle.other_measures.specs.declared.last_rows.Lapse.TheVariants.{Ran, NotBegun, Partial}
use Rattle.std.specs.Option.{option_map_or}

-- the last row of the one kind, where each tenth from its own up to t is known, with the first row of the other kind after it
unfoldable pub last_row_of : (Row → Bool) → (Row → Bool) → (ℕ → Bool) → ℕ → List Row → Option LastRow
last_row_of is_last is_first known t before = do
  (x, after) ← last_with is_last before
  if live known x.at t then Some (record { row = x; first = find is_first after }) else None

-- what ran from the first row up to tenth t: nothing began where there is none, and where there is no last row the begin isn't known
abbrev pub lapse_of : ℕ → Option LastRow → Lapse
lapse_of t last = option_map_or (λ l. option_map_or (λ x. Ran (t - x.at)) l.first NotBegun) last Partial

-- ---- For proofs alone: the same in parts.

abbrev pub last_row_in : (Row → Bool) → (ℕ → Bool) → ℕ → Option (Row × List Row) → Option LastRow
last_row_in is_first known t None = None
last_row_in is_first known t (Some (x, after)) = if live known x.at t then Some (record { row = x; first = find is_first after }) else None

abbrev pub since_first : ℕ → Option Row → Lapse
since_first t first = option_map_or (λ x. Ran (t - x.at)) first NotBegun

-- one more row

abbrev pub first_or : Row → Option Row → Option Row
first_or x None = Some x
first_or x (Some y) = Some y

abbrev pub with_first : Row → LastRow → LastRow
with_first x l = record l { first = first_or x l.first }

abbrev pub with_first_in : Row → Option LastRow → Option LastRow
with_first_in x None = None
with_first_in x (Some l) = Some (with_first x l)

abbrev pub last_row_after : Bool → Bool → Row → Option LastRow → Option LastRow
last_row_after true f x o = Some (record { row = x; first = None })
last_row_after false true x o = with_first_in x o
last_row_after false false x o = o
