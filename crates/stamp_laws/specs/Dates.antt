-- The two forms of a date.
use Rattle.std.specs.Prelude.{◌≡◌, ◌↔◌, ◌≤◌, ◌⊎◌, ℕ, ℤ, pos, List, ◌++◌, codes, Some}
use Rattle.jiff_core.specs.Calendar.{days_from_civil, days_in_month}
use Rattle.row_reader.specs.Stamp.{date_of}
use Rattle.stamp_laws.specs.Numbers.{IsNumber}

-- a year of four digits, and a month and a date of at most two and at least so many; the calendar has them, and this is the day, counted from 1970-01-01
pub record IsDayOf (least : ℕ) (year_text month_text date_text : List ℕ) (day : ℤ) : Type 0 where
  pub year : ℕ
  pub month : ℕ
  pub date : ℕ
  pub year_is : IsNumber 4 4 year_text year
  pub month_is : IsNumber least 2 month_text month
  pub date_is : IsNumber least 2 date_text date
  pub january : 1 ≤ month
  pub december : month ≤ 12
  pub first : 1 ≤ date
  pub last : date ≤ days_in_month (pos year) month
  pub counted : day ≡ days_from_civil (pos year) month date

-- YYYY-MM-DD, with two digits of month and day
pub record IsDashed (text : List ℕ) (day : ℤ) : Type 0 where
  pub year : List ℕ
  pub month : List ℕ
  pub date : List ℕ
  pub form : text ≡ year ++ codes "-" ++ month ++ codes "-" ++ date
  pub day_is : IsDayOf 2 year month date day

-- M/D/YYYY, with one or two digits of month and day
pub record IsSlashed (text : List ℕ) (day : ℤ) : Type 0 where
  pub month : List ℕ
  pub date : List ℕ
  pub year : List ℕ
  pub form : text ≡ month ++ codes "/" ++ date ++ codes "/" ++ year
  pub day_is : IsDayOf 1 year month date day

-- a date of either form
abbrev pub IsDate : List ℕ → ℤ → Type 0
IsDate text day = IsDashed text day ⊎ IsSlashed text day

-- exactly the texts of dates are read as dates
abbrev pub DatesAreRead : Type 0
DatesAreRead = (text : List ℕ) (day : ℤ) → (date_of text ≡ Some day) ↔ IsDate text day
