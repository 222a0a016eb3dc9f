-- The last row of each group, as it is looked up while repeats are dropped.
use Rattle.std.specs.Prelude.{◌≡◌, ◌==◌, ◌&&◌, ◌<◌, ◌≤◌, ◌+◌, Bool, false, List, Option, Some, None, slice_index_or, if◌then◌else◌, length, ℕ}
use Rattle.std.specs.Option.{option_or}
use Rattle.std.specs.Ordering.{nat_cmp, ordering_then}
use Rattle.std.specs.declared.cmp.Ordering.{Ordering}
use Rattle.sig_base.specs.declared.values.Row.{Row}
use Rattle.sig_base.specs.HourRows.{RiseIn}
use Rattle.event_codes.specs.declared.channels.Group.{Group}
use Rattle.event_codes.specs.declared.channels.Group.TheVariants.{Of, Alone}
use Rattle.event_codes.specs.Cells.{cell_of}
use Rattle.event_codes.specs.Channels.{same_group}
use Rattle.row_reader.specs.Repeats.{group_of_row, last_where}

-- the row that stands for one past the end
abbrev pub no_row : Row
no_row = record { at = 0; code = 0; param = 0 }

-- there is such a row, and it is this one
abbrev pub is_row : Row → Option Row → Bool
is_row row None = false
is_row row (Some r) = (r.at == row.at) && ((r.code == row.code) && (r.param == row.param))

-- the last of these rows of a group
abbrev pub last_of : Group → List Row → Option Row
last_of group rows = last_where (λ r. same_group group (group_of_row r)) rows

-- the look-ups differ in this row alone, which is the last one of its group
abbrev pub IsWithLast : Row → (Group → Option Row) → (Group → Option Row) → Type 0
IsWithLast row old new = (g : Group) → new g ≡ (if same_group (group_of_row row) g then Some row else old g)

-- the order of codes with their parameters
abbrev pub pair_cmp : ℕ × ℕ → ℕ × ℕ → Ordering
pair_cmp x y = ordering_then (nat_cmp x.0 y.0) (nat_cmp x.1 y.1)

-- the look-up of a group: that of a channel in its cell, any other one by its code and parameter
abbrev pub looked_up : List (Option Row) → (ℕ × ℕ → Option Row) → Group → Option Row
looked_up cells alone (Of c) = slice_index_or cells (cell_of c) None
looked_up cells alone (Alone code param) = alone (code, param)

-- the look-ups after these rows were noted, one after another
abbrev pub IsWithAll : List Row → (Group → Option Row) → (Group → Option Row) → Type 0
IsWithAll rows old new = (g : Group) → new g ≡ option_or (last_of g rows) (old g)

-- the row, where there is one and it is at this tenth
abbrev pub if_at : ℕ → Option Row → Option Row
if_at t None = None
if_at t (Some r) = if r.at == t then Some r else None

-- at this tenth, the look-ups give the last of these rows of each group
abbrev pub TellsAt : ℕ → (Group → Option Row) → List Row → Type 0
TellsAt t look_up rows = (g : Group) → if_at t (look_up g) ≡ last_where (λ r. (r.at == t) && same_group g (group_of_row r)) rows

-- the look-ups give rows before this tenth alone
abbrev pub AreBefore : ℕ → (Group → Option Row) → Type 0
AreBefore until look_up = (g : Group) (r : Row) → look_up g ≡ Some r → r.at < until

-- where these rows are in order, the look-ups give rows before this tenth alone, and where none of the rows is later, those of the tenth before it
abbrev pub Knows : ℕ → (Group → Option Row) → List Row → Type 0
Knows until look_up rows =
    ((b : ℕ) → RiseIn 0 b rows → AreBefore until look_up) × ((t : ℕ) → until ≡ t + 1 → RiseIn 0 until rows → TellsAt t look_up rows)

-- the row in front of a place, if any, is before this tenth
abbrev pub StartsAt : ℕ → ℕ → List Row → Type 0
StartsAt at n rows = (n ≤ length rows) × ((k : ℕ) → n ≡ k + 1 → (slice_index_or rows k no_row).at < at)
