-- How a tenth is printed.
use Rattle.std.specs.Prelude.{◌≡◌, ◌+◌, ◌-◌, ◌*◌, ◌/◌, ◌%◌, nat_lt, if◌then◌else◌, ℕ, zero, suc, ℤ, pos, ◌+ℤ◌, unsigned_abs, List, [], ◌∷◌}
use Rattle.jiff_core.specs.Calendar.{IsCivilDate, days_from_civil, days_in_year, days_in_month}
use Rattle.sig_base.specs.declared.stamp.Civil.{Civil}
use Rattle.sig_base.specs.Window.{Span}

-- the year of the nth day from 1 January of a year on, and that day's place in its year from 0; so many years are looked at
unfoldable pub year_from : ℕ → ℕ → ℕ → ℕ × ℕ
year_from zero year n = (year, n)
year_from (suc k) year n =
    if nat_lt n (days_in_year (pos year)) then (year, n) else year_from k (year + 1) (n - days_in_year (pos year))

-- the month of the nth day from the first of a month on, and that day's place in its month from 0
unfoldable pub month_from : ℕ → ℕ → ℕ → ℕ → ℕ × ℕ
month_from zero year month n = (month, n)
month_from (suc k) year month n =
    if nat_lt n (days_in_month (pos year) month) then (month, n)
    else month_from k year (month + 1) (n - days_in_month (pos year) month)

-- the date of a day of the years 0000 to 9999, of which 0000-01-01 is 719528 days before 1970-01-01
unfoldable pub civil_of : ℤ → Civil
civil_of day =
    let year = year_from 10000 0 (unsigned_abs (day +ℤ pos 719528)) in
    let month = month_from 12 year.0 1 year.1 in
    record { year = year.0; month = month.0; day = month.1 + 1 }

-- the byte of the last decimal digit of a number
abbrev pub decimal_end : ℕ → ℕ
decimal_end n = 48 + n % 10

-- the text `YYYY-MM-DDTHH:MM:SS.f` of a date and a tenth of its day
abbrev pub stamp_text : Civil → ℕ → List ℕ
stamp_text date tenth =
    decimal_end (date.year / 1000) ∷ decimal_end (date.year / 100) ∷ decimal_end (date.year / 10) ∷ decimal_end date.year ∷ 45
    ∷ decimal_end (date.month / 10) ∷ decimal_end date.month ∷ 45
    ∷ decimal_end (date.day / 10) ∷ decimal_end date.day ∷ 84
    ∷ decimal_end (tenth / 360000) ∷ decimal_end (tenth / 36000) ∷ 58
    ∷ decimal_end (tenth / 600 % 60 / 10) ∷ decimal_end (tenth / 600 % 60) ∷ 58
    ∷ decimal_end (tenth / 10 % 60 / 10) ∷ decimal_end (tenth / 10 % 60) ∷ 46
    ∷ decimal_end tenth ∷ []

-- the stamp of this tenth of the window: its day and its tenth of that day, counted from the start of the window's first day
unfoldable pub stamp_at : Span → ℕ → List ℕ
stamp_at w at = stamp_text (civil_of (w.day +ℤ pos ((36000 * w.hour + at) / 864000))) ((36000 * w.hour + at) % 864000)

-- For contracts alone: tenths from the start of the window's first day to this tenth of the window.
abbrev pub since_first_day : Span → ℕ → ℕ
since_first_day w at = 36000 * w.hour + at

-- For contracts alone: the day of this tenth of the window.
abbrev pub day_at : Span → ℕ → ℤ
day_at w at = w.day +ℤ pos (since_first_day w at / 864000)

-- the date is in the calendar and has this day number
abbrev pub IsDateOf : ℤ → Civil → Type 0
IsDateOf day date = IsCivilDate (pos date.year) date.month date.day × (days_from_civil (pos date.year) date.month date.day ≡ day)

-- the text shows the date that has the tenth's day number, and the tenth of that day
abbrev pub ShowsTenth : Span → ℕ → List ℕ → Type 0
ShowsTenth w at text = (date : Civil) × IsDateOf (day_at w at) date × (text ≡ stamp_text date (since_first_day w at % 864000))
