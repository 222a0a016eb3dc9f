-- What one record of a log file says.
use Rattle.std.specs.Prelude.{◌≡◌, ◌≢◌, ◌⊎◌, ◌↔◌, ◌+◌, ◌*◌, ℕ, ℤ, pos, ◌≤ℤ◌, ◌<ℤ◌, List, [], ◌∷◌, map, length, Some, None, Ok, Err}
use Rattle.sig_base.specs.declared.values.Row.{Row}
use Rattle.row_reader.specs.declared.row_error.RowError.{RowError}
use Rattle.row_reader.specs.declared.row_error.RowError.TheVariants.{TooManyRows, Fields, WrongSignal, Stamp, OutsideHour, Code, Param}
use Rattle.row_reader.specs.Number.{number_of}
use Rattle.row_reader.specs.Rows.{Wanted, record_row}
use Rattle.row_reader.specs.Stamp.{stamp_in}
use Rattle.row_reader.specs.Trim.{trimmed}

-- the record has four fields, and without the spaces at their ends they are these
abbrev pub AreFields : List (List ℕ) → List ℕ → List ℕ → List ℕ → List ℕ → Type 0
AreFields fields signal stamp code param = map trimmed fields ≡ signal ∷ stamp ∷ code ∷ param ∷ []

-- a tenth of the window is one of this hour of the window
abbrev pub IsOfHour : ℕ → ℤ → Type 0
IsOfHour hour at = (pos (36000 * hour) ≤ℤ at) × (at <ℤ pos (36000 * (hour + 1)))

-- the record is of the wanted signal, its stamp is at this tenth, which is one of the wanted hour, and these are its other fields
pub record IsAt (w : Wanted) (fields : List (List ℕ)) (at : ℤ) (code param : List ℕ) : Type 0 where
  pub stamp : List ℕ
  pub four : AreFields fields w.signal stamp code param
  pub stamp_is : stamp_in w.window stamp ≡ Some at
  pub hour : IsOfHour w.hour at

-- the record says this row, with a code of at most 255 and a parameter of at most 65535, each of one to nine digits
pub record GivesRow (w : Wanted) (fields : List (List ℕ)) (row : Row) : Type 0 where
  pub code : List ℕ
  pub param : List ℕ
  pub at_is : IsAt w fields (pos row.at) code param
  pub code_is : number_of 1 9 255 code ≡ Some row.code
  pub param_is : number_of 1 9 65535 param ≡ Some row.param

-- the record of this number passes each test before that of the error, and fails that one; they are, in order, four fields, the signal, a stamp, the hour, a code and a parameter
abbrev pub Fails : Wanted → ℕ → List (List ℕ) → RowError → Type 0
Fails w number fields (Fields n) = (n ≡ number) × (length fields ≢ 4)
Fails w number fields (WrongSignal n) = (n ≡ number) × ((signal stamp code param : List ℕ) × AreFields fields signal stamp code param × (signal ≢ w.signal))
Fails w number fields (Stamp n) = (n ≡ number) × ((stamp code param : List ℕ) × AreFields fields w.signal stamp code param × (stamp_in w.window stamp ≡ None))
Fails w number fields (OutsideHour n) = (n ≡ number) × ((stamp code param : List ℕ) × (at : ℤ) × AreFields fields w.signal stamp code param × (stamp_in w.window stamp ≡ Some at) × (¬ IsOfHour w.hour at))
Fails w number fields (Code n) = (n ≡ number) × ((code param : List ℕ) × (at : ℤ) × IsAt w fields at code param × (number_of 1 9 255 code ≡ None))
Fails w number fields (Param n) = (n ≡ number) × ((code param : List ℕ) × (at : ℤ) × (value : ℕ) × IsAt w fields at code param × (number_of 1 9 255 code ≡ Some value) × (number_of 1 9 65535 param ≡ None))
Fails w number fields _ = ⊥

-- with so many rows before it the record of this number is refused: there are 400,000 already, or it fails a test
abbrev pub IsRefused : Wanted → ℕ → ℕ → List (List ℕ) → RowError → Type 0
IsRefused w rows number fields error = ((rows ≡ 400000) × (error ≡ TooManyRows)) ⊎ ((rows ≢ 400000) × Fails w number fields error)

-- a record gives a row exactly where it says it and there is room for it; before it are so many headers and so many rows
abbrev pub RecordsGiveRows : Type 0
RecordsGiveRows = (w : Wanted) (headers rows : ℕ) (fields : List (List ℕ)) (row : Row) → (record_row w headers (headers + rows + 1) fields ≡ Ok row) ↔ ((rows ≢ 400000) × GivesRow w fields row)

-- a record gives an error exactly where it is refused with it; before it are so many headers and so many rows
abbrev pub RecordsAreRefused : Type 0
RecordsAreRefused = (w : Wanted) (headers rows : ℕ) (fields : List (List ℕ)) (error : RowError) → (record_row w headers (headers + rows + 1) fields ≡ Err error) ↔ IsRefused w rows (headers + rows + 1) fields error
