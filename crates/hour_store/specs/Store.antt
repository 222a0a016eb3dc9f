-- What is held of each hour, which tenths are blanked, and what is known.
use Rattle.std.specs.Prelude.{◌≡◌, ◌≤◌, ◌*◌, ◌/◌, ℕ, ℤ, pos, ◌≤ℤ◌, ◌<ℤ◌, Bool, ◌&&◌, not, IsTrue, List, [], ◌∷◌, ◌++◌, length, replicate, filter, sum_by, slice_set, slice_index_or, Option, Some, None, is_some, option_map}
use Rattle.sig_base.specs.declared.values.Row.{Row}
use Rattle.sig_base.specs.HourRows.{AreRowsOf, Shown}
use Rattle.span_set.specs.declared.set.Span.{Span}
use Rattle.span_set.specs.Spans.{Member, is_member}

-- what is held and known: for each hour of the window nothing or its rows, and the ranges of the blanked tenths
pub record Store : Type 0 where
  pub hours : List (Option Shown)
  pub blanks : List Span

-- what is held of an hour
abbrev pub held_at : Store → ℕ → Option Shown
held_at s hour = slice_index_or s.hours hour None

-- the rows that are held of an hour
abbrev pub rows_at : Store → ℕ → Option (List Row)
rows_at s hour = option_map (λ h. h.rows) (held_at s hour)

-- how many rows are held of an hour, none where it isn't held
abbrev pub count_in : Option Shown → ℕ
count_in None = 0
count_in (Some h) = length h.rows

-- how many rows are held of all hours
abbrev pub rows_held : Store → ℕ
rows_held s = sum_by count_in s.hours

-- a store of so many hours that holds and blanks nothing
abbrev pub nothing_held : ℕ → Store
nothing_held hours = record { hours = replicate hours None; blanks = [] }

-- the store with this in the place of what is held of an hour
abbrev pub with_hour : Store → ℕ → Option Shown → Store
with_hour s hour x = record s { hours = slice_set s.hours hour x }

-- the store with these ranges blanked, and no others
abbrev pub with_blanks : Store → List Span → Store
with_blanks s blanks = record s { blanks = blanks }

-- a tenth of the window is known where its hour is held and it isn't blanked
abbrev pub is_known : Store → ℕ → Bool
is_known s t = is_some (held_at s (t / 36000)) && not (is_member s.blanks (pos t))

abbrev pub IsKnown : Store → ℕ → Type 0
IsKnown s t = IsTrue (is_known s t)

-- the held rows, hour by hour
abbrev pub rows_of : List (Option Shown) → List Row
rows_of [] = []
rows_of (None ∷ hs) = rows_of hs
rows_of (Some h ∷ hs) = h.rows ++ rows_of hs

-- the held rows whose tenths are known, in their order
abbrev pub known_rows : Store → List Row
known_rows s = filter (λ r. is_known s r.at) (rows_of s.hours)

-- these are rows of this hour
pub record IsOfHour (hour : ℕ) (h : Shown) : Type 0 where
  pub hour_is : h.hour ≡ hour
  pub rows_are : AreRowsOf hour h.rows

-- what is held stands at its own hour
abbrev pub AreInPlace : List (Option Shown) → Type 0
AreInPlace hours = (hour : ℕ) (h : Shown) → slice_index_or hours hour None ≡ Some h → IsOfHour hour h

-- all tenths of the ranges are in a window of so many hours
abbrev pub LieWithin : ℕ → List Span → Type 0
LieWithin hours ranges = (e : ℤ) → Member ranges e → (pos 0 ≤ℤ e) × (e <ℤ pos (36000 * hours))

-- a store of a window
pub record IsStore (s : Store) : Type 0 where
  pub some : 1 ≤ length s.hours
  pub few : length s.hours ≤ 744
  pub in_place : AreInPlace s.hours
  pub blanked : LieWithin (length s.hours) s.blanks
