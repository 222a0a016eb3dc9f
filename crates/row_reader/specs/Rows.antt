-- What a log file says.
use Rattle.std.specs.Prelude.{◌≡◌, ◌+◌, ◌-◌, ◌*◌, ◌==◌, ◌&&◌, ◌||◌, nat_le, nat_lt, if◌then◌else◌, ℕ, ℤ, pos, negsuc, Bool, List, [], ◌∷◌, ◌++◌, map, length, codes, Option, Some, None, unwrap_or, ok_or, Result, Ok, Err, ⊤}
use Rattle.std.specs.Char.{to_ascii_lowercase}
use Rattle.std.specs.Str.{bytes_eq}
use Rattle.csv.specs.Records.{field_at}
use Rattle.csv.specs.Reading.{default_config, records, strip_bom}
use Rattle.sig_base.specs.declared.values.Row.{Row}
use Rattle.sig_base.specs.HourRows.{Shown}
use Rattle.sig_base.specs.Window.{Span}
use Rattle.row_reader.specs.declared.row_error.RowError.{RowError}
use Rattle.row_reader.specs.declared.row_error.RowError.TheVariants.{TooManyRows, Fields, WrongSignal, Stamp, OutsideHour, Code, Param, Memory}
use Rattle.row_reader.specs.Number.{number_of}
use Rattle.row_reader.specs.Order.{in_row_order}
use Rattle.row_reader.specs.Repeats.{without_repeats}
use Rattle.row_reader.specs.Stamp.{stamp_in}
use Rattle.row_reader.specs.Trim.{trimmed}

-- what rows a file is read for: those of this signal and this hour of the window
pub record Wanted : Type 0 where
  pub signal : List ℕ
  pub hour : ℕ
  pub window : Span

-- the tenth, where it lies in this hour of the window
abbrev pub at_in_hour : ℕ → ℤ → Option ℕ
at_in_hour hour (pos at) = if nat_le (36000 * hour) at && nat_lt at (36000 * hour + 36000) then Some at else None
at_in_hour hour (negsuc n) = None

-- the field at a place without the spaces at its ends, or no bytes
abbrev pub field : List (List ℕ) → ℕ → List ℕ
field fields i = trimmed (unwrap_or (field_at fields i) [])

-- the record of this number is the header: it is the first one, and its first field is one of two words, in any ASCII case
abbrev pub is_header : ℕ → List (List ℕ) → Bool
is_header number fields =
    let first = map to_ascii_lowercase (field fields 0) in
    (number == 1) && (bytes_eq first (codes "signalid") || bytes_eq first (codes "locationidentifier"))

infixl 10 ◌>>=◌
-- what comes of a value, or the error in its place
abbrev pub ◌>>=◌ : {A B E : Type 0} → Result A E → (A → Result B E) → Result B E
(Ok value) >>= more = more value
(Err error) >>= more = Err error

-- the row of four fields, or the first test that they fail
abbrev pub row_of : Wanted → ℕ → List ℕ → List ℕ → List ℕ → List ℕ → Result Row RowError
row_of w number signal stamp code param =
    if bytes_eq signal w.signal then (do
      tenth ← ok_or (stamp_in w.window stamp) (Stamp number)
      at ← ok_or (at_in_hour w.hour tenth) (OutsideHour number)
      code ← ok_or (number_of 1 9 255 code) (Code number)
      param ← ok_or (number_of 1 9 65535 param) (Param number)
      Ok (record { at = at; code = code; param = param }))
    else Err (WrongSignal number)

-- the row of the record of this number, or the first test that it fails; so many records before it were a header
abbrev pub record_row : Wanted → ℕ → ℕ → List (List ℕ) → Result Row RowError
record_row w headers number fields =
    if number == headers + 400001 then Err TooManyRows
    else if length fields == 4 then row_of w number (field fields 0) (field fields 1) (field fields 2) (field fields 3)
    else Err (Fields number)

-- these rows with those of the records from this number on, or the first refusal
unfoldable pub rows_after : Wanted → ℕ → List Row → ℕ → List (List (List ℕ)) → Result (List Row) RowError
rows_after w headers rows number [] = Ok rows
rows_after w headers rows number (r ∷ rs) =
    if is_header number r then rows_after w 1 rows (number + 1) rs
    else record_row w headers number r >>= λ row. rows_after w headers (rows ++ row ∷ []) (number + 1) rs

-- the rows of a file as it has them, or its first refusal
abbrev pub good_rows : Wanted → List ℕ → Result (List Row) RowError
good_rows w bytes = rows_after w 0 [] 1 (records default_config (strip_bom bytes))

-- the rows of an hour in row order, without the repeats and with their count
abbrev pub shown_of : ℕ → List Row → Shown
shown_of hour rows =
    let ordered = in_row_order hour rows in
    let kept = without_repeats ordered in
    record { hour = hour; rows = kept; repeats = length ordered - length kept }

-- what a file says: the rows of the hour in row order without repeats, with the count of these, or the first refusal
abbrev pub rows_of : Wanted → List ℕ → Result Shown RowError
rows_of w bytes = good_rows w bytes >>= λ rows. Ok (shown_of w.hour rows)

-- the answer is the refusal of this outcome, or memory ran out
abbrev pub IsRefusal : {A : Type 0} → Result A RowError → RowError → Type 0
IsRefusal want TooManyRows = want ≡ Err TooManyRows
IsRefusal want (Fields n) = want ≡ Err (Fields n)
IsRefusal want (WrongSignal n) = want ≡ Err (WrongSignal n)
IsRefusal want (Stamp n) = want ≡ Err (Stamp n)
IsRefusal want (OutsideHour n) = want ≡ Err (OutsideHour n)
IsRefusal want (Code n) = want ≡ Err (Code n)
IsRefusal want (Param n) = want ≡ Err (Param n)
IsRefusal want Memory = ⊤

-- For contracts alone: the text is this word, in any ASCII case.
abbrev pub is_word : List ℕ → List ℕ → Bool
is_word word text = bytes_eq (map to_ascii_lowercase text) word

-- For contracts alone: what comes of a row, or the refusal in its place.
abbrev pub on_row : Result Row RowError → (Row → Result (List Row) RowError) → Result (List Row) RowError
on_row row more = row >>= more

-- For contracts alone: the rows of an hour in row order without repeats, or the refusal in their place.
abbrev pub on_rows : ℕ → Result (List Row) RowError → Result Shown RowError
on_rows hour rows = rows >>= λ rows. Ok (shown_of hour rows)

-- For contracts alone: what comes of a value, or this refusal where there is none.
abbrev pub on_some : {A B : Type 0} → Option A → RowError → (A → Result B RowError) → Result B RowError
on_some value refusal more = ok_or value refusal >>= more
