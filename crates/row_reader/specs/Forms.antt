-- The written forms of a stamp, part by part. `cut` and what rests on it in `Stamp` read just these.
use Rattle.std.specs.Prelude.{◌≡◌, ◌*◌, ◌⊎◌, ℕ, ℤ, List, ◌∷◌, ◌++◌, Some}
use Rattle.sig_base.specs.Window.{Span, tenth_in}
use Rattle.row_reader.specs.Number.{number_of}
use Rattle.row_reader.specs.Stamp.{day_of, first_digit, tenths, tenth_of_day}

-- YYYY-MM-DD, a day of the calendar
pub record IsDashed (text : List ℕ) (day : ℤ) : Type 0 where
  pub year : List ℕ
  pub month : List ℕ
  pub date : List ℕ
  pub form : text ≡ year ++ 45 ∷ (month ++ 45 ∷ date)
  pub is : day_of (number_of 4 4 9999 year) (number_of 2 2 99 month) (number_of 2 2 99 date) ≡ Some day

-- M/D/YYYY, a day of the calendar
pub record IsSlashed (text : List ℕ) (day : ℤ) : Type 0 where
  pub month : List ℕ
  pub date : List ℕ
  pub year : List ℕ
  pub form : text ≡ month ++ 47 ∷ (date ++ 47 ∷ year)
  pub is : day_of (number_of 4 4 9999 year) (number_of 1 2 99 month) (number_of 1 2 99 date) ≡ Some day

-- SS, in tenths
pub record IsWhole (text : List ℕ) (tenth : ℕ) : Type 0 where
  pub second : ℕ
  pub form : number_of 2 2 59 text ≡ Some second
  pub is : tenth ≡ 10 * second

-- SS and a dot and one to nine digits, of which the first is the tenth
pub record IsBroken (text : List ℕ) (tenth : ℕ) : Type 0 where
  pub whole : List ℕ
  pub fraction : List ℕ
  pub form : text ≡ whole ++ 46 ∷ fraction
  pub is : tenths (number_of 2 2 59 whole) (first_digit fraction) ≡ Some tenth

-- H:MM: and seconds, as a tenth of the day
pub record IsTime (text : List ℕ) (tenth : ℕ) : Type 0 where
  pub hour : List ℕ
  pub minute : List ℕ
  pub seconds : List ℕ
  pub form : text ≡ hour ++ 58 ∷ (minute ++ 58 ∷ seconds)
  pub of_minute : ℕ
  pub seconds_are : IsWhole seconds of_minute ⊎ IsBroken seconds of_minute
  pub is : tenth_of_day (number_of 1 2 23 hour) (number_of 2 2 59 minute) (Some of_minute) ≡ Some tenth

-- a date, one space or `T`, and a time: a tenth of this day
pub record IsStamp (text : List ℕ) (day : ℤ) (tenth : ℕ) : Type 0 where
  pub date : List ℕ
  pub gap : ℕ
  pub time : List ℕ
  pub form : text ≡ date ++ gap ∷ time
  pub gap_is : (gap ≡ 32) ⊎ (gap ≡ 84)
  pub date_is : IsDashed date day ⊎ IsSlashed date day
  pub time_is : IsTime time tenth

-- a stamp that names this tenth of the window, which may lie outside
pub record NamesTenth (window : Span) (text : List ℕ) (at : ℤ) : Type 0 where
  pub day : ℤ
  pub tenth : ℕ
  pub stamp : IsStamp text day tenth
  pub is : at ≡ tenth_in window day tenth

-- YYYY-MM-DDTHH, a day of the calendar and an hour of two digits, 0 to 23
pub record IsHourStamp (text : List ℕ) (day : ℤ) (hour : ℕ) : Type 0 where
  pub date : List ℕ
  pub hour_text : List ℕ
  pub form : text ≡ date ++ 84 ∷ hour_text
  pub date_is : IsDashed date day
  pub hour_is : number_of 2 2 23 hour_text ≡ Some hour
