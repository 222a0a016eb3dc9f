-- What bytes say as a packed hour, read from their start: the rows, or the first fault.
use Rattle.std.specs.Prelude.{◌≡◌, ◌==◌, ◌||◌, ◌+◌, ◌-◌, ◌*◌, nat_eq, nat_lt, nat_le, if◌then◌else◌, ℕ, zero, suc, List, [], ◌∷◌, ◌++◌, length, take, drop, Result, Ok, Err, ⊤}
use Rattle.std.specs.List.{starts_with}
use Rattle.std.specs.Int.{w32, from_be_bytes}
use Rattle.sig_base.specs.declared.values.Row.{Row}
use Rattle.sig_base.specs.Window.{Span}
use Rattle.row_reader.specs.Repeats.{is_repeat}
pub use Rattle.row_reader.specs.Rows.{◌>>=◌}
use Rattle.hour_pack.specs.declared.pack_error.PackError.{PackError}
use Rattle.hour_pack.specs.declared.pack_error.PackError.TheVariants.{NotPacked, Short, WrongSignal, WrongHour, TooManyRows, Extra, Memory}
use Rattle.hour_pack.specs.declared.pack_error.PackError.TheVariants.{Row as BadRow}
use Rattle.hour_pack.specs.Grammar.{mark, hour_part}

-- ---- what a call gives of what is read

-- what a call returned, seen by `view`, is what was read
abbrev pub Gives : {X Y : Type 0} → (X → Y) → Result X PackError → Result Y PackError → Type 0
Gives view (Ok x) read = read ≡ Ok (view x)
Gives view (Err e) read = read ≡ Err e

-- the error is the fault that was read, or memory ran out
abbrev pub IsFault : {Y : Type 0} → Result Y PackError → PackError → Type 0
IsFault read NotPacked = read ≡ Err NotPacked
IsFault read Short = read ≡ Err Short
IsFault read WrongSignal = read ≡ Err WrongSignal
IsFault read WrongHour = read ≡ Err WrongHour
IsFault read TooManyRows = read ≡ Err TooManyRows
IsFault read (BadRow n) = read ≡ Err (BadRow n)
IsFault read Extra = read ≡ Err Extra
IsFault read Memory = ⊤

-- what a call returned, seen by `view`, is what was read, or memory ran out
abbrev pub GivesInMemory : {X Y : Type 0} → (X → Y) → Result X PackError → Result Y PackError → Type 0
GivesInMemory view (Ok x) read = read ≡ Ok (view x)
GivesInMemory view (Err e) read = IsFault read e

-- ---- what stands before the rows

-- the bytes behind this part; else they end within it, or one of them differs
abbrev pub after_part : PackError → List ℕ → List ℕ → Result (List ℕ) PackError
after_part wrong part bytes =
    if starts_with nat_eq bytes part then Ok (drop (length part) bytes)
    else if starts_with nat_eq part bytes then Err Short
    else Err wrong

-- the bytes behind the mark, without which they are no packed hour, and behind the signal and the hour, which have to be those that are wanted
unfoldable pub after_head : List ℕ → Span → ℕ → List ℕ → Result (List ℕ) PackError
after_head signal window hour bytes = do
  body ← if starts_with nat_eq bytes mark then Ok (drop 4 bytes) else Err NotPacked
  body ← after_part WrongSignal (length signal ∷ []) body
  body ← after_part WrongSignal signal body
  after_part WrongHour (hour_part window hour) body

-- how many rows there are to be, which is at most 400,000, and the bytes behind that
unfoldable pub count_at : List ℕ → Result (ℕ × List ℕ) PackError
count_at bytes =
    let count = from_be_bytes w32 (take 4 bytes) in
    if nat_lt (length bytes) 4 then Err Short else if nat_lt 400000 count then Err TooManyRows else Ok (count, drop 4 bytes)

-- ---- a row

-- a number whose first two bytes are at least 128, and the bytes behind it
abbrev pub third_byte : ℕ → ℕ → ℕ → List ℕ → Result (ℕ × List ℕ) PackError
third_byte row a b [] = Err Short
third_byte row a b (c ∷ bytes) =
    if (c == 0) || nat_le 128 c then Err (BadRow row) else Ok ((a - 128) + 128 * (b - 128) + 16384 * c, bytes)

-- a number whose first byte is at least 128, and the bytes behind it
abbrev pub second_byte : ℕ → ℕ → List ℕ → Result (ℕ × List ℕ) PackError
second_byte row a [] = Err Short
second_byte row a (b ∷ bytes) =
    if b == 0 then Err (BadRow row)
    else if nat_lt b 128 then Ok ((a - 128) + 128 * b, bytes)
    else third_byte row a b bytes

-- a number of the row of this place, from 1, and the bytes behind it
unfoldable pub number_at : ℕ → List ℕ → Result (ℕ × List ℕ) PackError
number_at row [] = Err Short
number_at row (a ∷ bytes) = if nat_lt a 128 then Ok (a, bytes) else second_byte row a bytes

-- the tenth of a row, by how many tenths it comes after the row before; it has to lie before `to`
unfoldable pub tenth_at : ℕ → ℕ → ℕ → List ℕ → Result (ℕ × List ℕ) PackError
tenth_at row to last bytes = number_at row bytes >>= λ since. if nat_lt (last + since.0) to then Ok (last + since.0, since.1) else Err (BadRow row)

-- the code of a row: one byte
abbrev pub code_at : List ℕ → Result (ℕ × List ℕ) PackError
code_at [] = Err Short
code_at (code ∷ bytes) = Ok (code, bytes)

-- the parameter of the row of this place, which has two bytes' room
unfoldable pub param_at : ℕ → List ℕ → Result (ℕ × List ℕ) PackError
param_at row bytes = number_at row bytes >>= λ param. if nat_lt param.0 65536 then Ok param else Err (BadRow row)

-- the row behind those that are kept, the last of which is at this tenth; it isn't a repeat of these
unfoldable pub row_at : ℕ → ℕ → List Row → List ℕ → Result (Row × List ℕ) PackError
row_at to last kept bytes = do
  at ← tenth_at (length kept + 1) to last bytes
  code ← code_at at.1
  param ← param_at (length kept + 1) code.1
  let row : Row = record { at = at.0; code = code.0; param = param.0 } in
      if is_repeat kept row then Err (BadRow (length kept + 1)) else Ok (row, param.1)

-- the rows that are kept, and so many more
unfoldable pub rows_at : ℕ → ℕ → ℕ → List Row → List ℕ → Result (List Row × List ℕ) PackError
rows_at zero to last kept bytes = Ok (kept, bytes)
rows_at (suc left) to last kept bytes = do
  row ← row_at to last kept bytes
  rows_at left to row.0.at (kept ++ row.0 ∷ []) row.1

-- ---- all of it

-- the rows of an hour, from the count on; nothing may follow the last one
unfoldable pub hour_rows : ℕ → List ℕ → Result (List Row) PackError
hour_rows hour bytes = do
  count ← count_at bytes
  rows ← rows_at count.0 (36000 * hour + 36000) (36000 * hour) [] count.1
  if length rows.1 == 0 then Ok rows.0 else Err Extra

-- the rows of this signal and this hour of the window, or the first fault
unfoldable pub reading : List ℕ → Span → ℕ → List ℕ → Result (List Row) PackError
reading signal window hour bytes = after_head signal window hour bytes >>= hour_rows hour

-- ---- for contracts alone

-- the bytes behind the mark; without it they are no packed hour
abbrev pub after_mark : List ℕ → Result (List ℕ) PackError
after_mark bytes = if starts_with nat_eq bytes mark then Ok (drop 4 bytes) else Err NotPacked

-- a packed hour has at most 400,000 rows
abbrev pub few_rows : ℕ × List ℕ → Result (ℕ × List ℕ) PackError
few_rows count = if nat_lt 400000 count.0 then Err TooManyRows else Ok count

-- the tenth of a row by how many tenths it comes after the row before; it has to lie in the hour
abbrev pub tenth_by : ℕ → ℕ → ℕ → ℕ × List ℕ → Result (ℕ × List ℕ) PackError
tenth_by row to last since = if nat_lt (last + since.0) to then Ok (last + since.0, since.1) else Err (BadRow row)

-- the parameter of a row has two bytes' room
abbrev pub param_by : ℕ → ℕ × List ℕ → Result (ℕ × List ℕ) PackError
param_by row param = if nat_lt param.0 65536 then Ok param else Err (BadRow row)

-- a row that is read isn't a repeat of those before it
abbrev pub fresh : List Row → Row → List ℕ → Result (Row × List ℕ) PackError
fresh kept row bytes = if is_repeat kept row then Err (BadRow (length kept + 1)) else Ok (row, bytes)

-- the row of this place, behind a row at this tenth, and the bytes behind it; it may be a repeat
unfoldable pub any_row_at : ℕ → ℕ → ℕ → List ℕ → Result (Row × List ℕ) PackError
any_row_at place to last bytes = do
  at ← tenth_at place to last bytes
  code ← code_at at.1
  param ← param_at place code.1
  let row : Row = record { at = at.0; code = code.0; param = param.0 } in Ok (row, param.1)

-- the rows that are kept and this one, which isn't a repeat of these
abbrev pub with_row : List Row → Row → Result (List Row) PackError
with_row kept row = if is_repeat kept row then Err (BadRow (length kept + 1)) else Ok (kept ++ row ∷ [])

-- nothing may follow the last row
abbrev pub at_end : List Row × List ℕ → Result (List Row) PackError
at_end rows = if length rows.1 == 0 then Ok rows.0 else Err Extra
