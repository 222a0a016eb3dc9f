-- A stamp: a date, a space or `T`, and a time.
use Rattle.std.specs.Prelude.{◌≡◌, ◌↔◌, ◌≤◌, ◌⊎◌, ◌*◌, ℕ, ℤ, pos, ◌+ℤ◌, ◌-ℤ◌, ◌*ℤ◌, List, ◌++◌, codes, Some}
use Rattle.sig_base.specs.Window.{Span}
use Rattle.row_reader.specs.Stamp.{hour_stamp_of, stamp_in, stamp_of}
use Rattle.stamp_laws.specs.Numbers.{IsNumber}
use Rattle.stamp_laws.specs.Dates.{IsDashed, IsDate}
use Rattle.stamp_laws.specs.Times.{IsTime}

-- a date, one space or `T`, and a time: the text names this tenth of this day
pub record IsStamp (text : List ℕ) (day : ℤ) (tenths : ℕ) : Type 0 where
  pub date : List ℕ
  pub time : List ℕ
  pub form : (text ≡ date ++ codes " " ++ time) ⊎ (text ≡ date ++ codes "T" ++ time)
  pub date_is : IsDate date day
  pub time_is : IsTime time tenths

-- the text names the tenth that comes this many tenths after the window's first one, or before it where that is negative
pub record IsStampIn (window : Span) (text : List ℕ) (at : ℤ) : Type 0 where
  pub day : ℤ
  pub tenths : ℕ
  pub stamp : IsStamp text day tenths
  pub is : (pos (36000 * window.hour) +ℤ at) ≡ (((day -ℤ window.day) *ℤ pos 864000) +ℤ pos tenths)

-- YYYY-MM-DDTHH, with an hour of two digits
pub record IsHour (text : List ℕ) (day : ℤ) (hour : ℕ) : Type 0 where
  pub date : List ℕ
  pub hour_text : List ℕ
  pub form : text ≡ date ++ codes "T" ++ hour_text
  pub date_is : IsDashed date day
  pub hour_is : IsNumber 2 2 hour_text hour
  pub hours : hour ≤ 23

-- exactly the texts of stamps are read as stamps
abbrev pub StampsAreRead : Type 0
StampsAreRead = (text : List ℕ) (day : ℤ) (tenths : ℕ) → (stamp_of text ≡ Some (day, tenths)) ↔ IsStamp text day tenths

-- and as these tenths of a window
abbrev pub TenthsAreRead : Type 0
TenthsAreRead = (window : Span) (text : List ℕ) (at : ℤ) → (stamp_in window text ≡ Some at) ↔ IsStampIn window text at

-- exactly the texts of hours are read as stamps of hours
abbrev pub HoursAreRead : Type 0
HoursAreRead = (text : List ℕ) (day : ℤ) (hour : ℕ) → (hour_stamp_of text ≡ Some (day, hour)) ↔ IsHour text day hour
