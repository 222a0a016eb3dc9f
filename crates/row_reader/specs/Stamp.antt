-- The stamp of a row and of an hour.
--   stamp = date (' ' | 'T') time
--   date  = YYYY-MM-DD | M/D/YYYY, where M and D have one or two digits; the calendar has it
--   time  = H:MM:SS [. f], where H has one or two digits, 0 to 23, and f one to nine digits, of which the first counts
use Rattle.std.specs.Prelude.{◌+◌, ◌*◌, ◌&&◌, ◌==◌, Bool, nat_le, if◌then◌else◌, ℕ, ℤ, pos, List, take, drop, position, Option, Some, None, option_map, option_and_then, slice_index}
use Rattle.std.specs.Option.{option_or, option_zip}
use Rattle.jiff_core.specs.Calendar.{days_from_civil, days_in_month}
use Rattle.sig_base.specs.Window.{Span, tenth_in}
use Rattle.row_reader.specs.Number.{digit, number_of}

-- a text cut at the first such byte: what stands before it, and what after it
abbrev pub cut : ℕ → List ℕ → Option (List ℕ × List ℕ)
cut mark text = option_map (λ i. (take i text, drop (i + 1) text)) (position (λ b. b == mark) text)

infixl 10 ◌>>=◌
-- what is made of a value, where there is one
abbrev pub ◌>>=◌ : {A B : Type 0} → Option A → (A → Option B) → Option B
value >>= make = option_and_then make value

-- what is made of the three parts of a text that is cut at the first two such bytes
abbrev pub in_three : {A : Type 0} → ℕ → List ℕ → (List ℕ → List ℕ → List ℕ → Option A) → Option A
in_three mark text make = cut mark text >>= λ p. cut mark p.1 >>= λ q. make p.0 q.0 q.1

-- the day number of the texts of a year, a month and a day, the last two of at least so many digits, where the calendar has this day
abbrev pub day_in : ℕ → List ℕ → List ℕ → List ℕ → Option ℤ
day_in least year month day = do
  y ← number_of 4 4 9999 year
  m ← number_of least 2 99 month
  d ← number_of least 2 99 day
  if nat_le 1 m && nat_le m 12 && nat_le 1 d && nat_le d (days_in_month (pos y) m) then Some (days_from_civil (pos y) m d) else None

-- the day of a text YYYY-MM-DD
abbrev pub dashed_date : List ℕ → Option ℤ
dashed_date text = in_three 45 text (λ year month day. day_in 2 year month day)

-- the day of a text that is a date of either form, YYYY-MM-DD or M/D/YYYY
abbrev pub date_of : List ℕ → Option ℤ
date_of text = option_or (dashed_date text) (in_three 47 text (λ month day year. day_in 1 year month day))

-- so many seconds and tenths, as tenths
abbrev pub tenths : Option ℕ → Option ℕ → Option ℕ
tenths second tenth = second >>= λ s. tenth >>= λ t. Some (10 * s + t)

-- the tenths of a minute of a text SS, or SS.f that is cut at its dot: of one to nine digits f the first counts
abbrev pub seconds_of : Option (List ℕ × List ℕ) → List ℕ → Option ℕ
seconds_of None text = tenths (number_of 2 2 59 text) (Some 0)
seconds_of (Some p) text = tenths (number_of 2 2 59 p.0) (option_map (λ n. digit (slice_index p.1 0)) (number_of 1 9 999999999 p.1))

-- the tenth of the day of a text H:MM:SS or H:MM:SS.f
abbrev pub time_of : List ℕ → Option ℕ
time_of text = in_three 58 text λ hour minute second. do
  h ← number_of 1 2 23 hour
  m ← number_of 2 2 59 minute
  s ← seconds_of (cut 46 second) second
  Some (36000 * h + 600 * m + s)

-- the day of a stamp, counted from 1970-01-01, and the tenth of that day
abbrev pub stamp_of : List ℕ → Option (ℤ × ℕ)
stamp_of text = option_or (cut 32 text) (cut 84 text) >>= λ p. option_zip (date_of p.0) (time_of p.1)

-- the tenth of the window that a stamp names; it may lie outside
abbrev pub stamp_in : Span → List ℕ → Option ℤ
stamp_in window text = option_map (λ s. tenth_in window s.0 s.1) (stamp_of text)

-- the day and the hour of `YYYY-MM-DDTHH`
abbrev pub hour_stamp_of : List ℕ → Option (ℤ × ℕ)
hour_stamp_of text = cut 84 text >>= λ p. option_zip (dashed_date p.0) (number_of 2 2 23 p.1)

-- two values, where both are there
abbrev pub both : {A B : Type 0} → Option A → Option B → Option (A × B)
both a b = option_zip a b

-- ---- for contracts alone

-- the calendar has this day
abbrev pub is_civil : ℕ → ℕ → ℕ → Bool
is_civil y m d = nat_le 1 m && nat_le m 12 && nat_le 1 d && nat_le d (days_in_month (pos y) m)

-- the day number of a date, where the calendar has it
abbrev pub civil_day : ℕ → ℕ → ℕ → Option ℤ
civil_day y m d = if is_civil y m d then Some (days_from_civil (pos y) m d) else None

-- the day number of a date of these numbers, where all are there and the calendar has it
abbrev pub day_of : Option ℕ → Option ℕ → Option ℕ → Option ℤ
day_of year month day = year >>= λ y. month >>= λ m. day >>= λ d. civil_day y m d

-- what a function makes of both parts of a text that is cut
abbrev pub at_cut : {A : Type 0} → (List ℕ → List ℕ → Option A) → Option (List ℕ × List ℕ) → Option A
at_cut make parts = parts >>= λ p. make p.0 p.1

-- the day of a year and a text MM-DD
abbrev pub dashed_month : List ℕ → List ℕ → Option ℤ
dashed_month year rest = at_cut (λ month day. day_in 2 year month day) (cut 45 rest)

-- the day of a month and a text D/YYYY
abbrev pub slashed_day : List ℕ → List ℕ → Option ℤ
slashed_day month rest = at_cut (λ day year. day_in 1 year month day) (cut 47 rest)

-- the day of a text M/D/YYYY
abbrev pub slashed_date : List ℕ → Option ℤ
slashed_date text = in_three 47 text (λ month day year. day_in 1 year month day)

-- the tenth of a second of a text of one to nine digits: the first of them
abbrev pub first_digit : List ℕ → Option ℕ
first_digit text = option_map (λ n. digit (slice_index text 0)) (number_of 1 9 999999999 text)

-- the tenth of the day of this hour, minute and tenth of the minute, where all are there
abbrev pub tenth_of_day : Option ℕ → Option ℕ → Option ℕ → Option ℕ
tenth_of_day hour minute second = hour >>= λ h. minute >>= λ m. second >>= λ s. Some (36000 * h + 600 * m + s)

-- the tenth of the day of an hour and a text MM:SS or MM:SS.f
abbrev pub minutes_of : List ℕ → List ℕ → Option ℕ
minutes_of hour rest =
    at_cut (λ minute second. tenth_of_day (number_of 1 2 23 hour) (number_of 2 2 59 minute) (seconds_of (cut 46 second) second)) (cut 58 rest)
