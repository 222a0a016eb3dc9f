-- The date of a day number is the one that the calendar gives it.
use Rattle.std.proofs.Common.{◌≡◌, ◌≤◌, ◌<◌, ◌+◌, ◌-◌, inl, inr, ℕ, zero, suc, ℤ, pos, ◌+ℤ◌, ◌-ℤ◌, refl, sym, ap, ◌∙◌, arith, true, false, nat_lt}
use Rattle.std.proofs.lemmas.Bool.{lt-ltb, le-ltb}
use Rattle.std.proofs.Math.Nat.{eq-or-lt_of_le}
use Rattle.jiff_core.specs.Calendar.{IsCivilDate, days_from_civil, day_count, day_of_year, days_of_months, days_in_year, days_in_month}
use Rattle.jiff_core.proofs.CalendarLemmas.{day_count-epoch, day_count-day_of_year, day_count-next_year, day_count-later_year, day_of_year_bound, days_of_months_mono, days_of_months_more, days_of_months-zero}
use Rattle.jiff_core.proofs.SignedLemmas.{signed_arith}
use Rattle.sig_base.specs.declared.stamp.Civil.{Civil}
use Rattle.sig_base.specs.Stamp.{IsDateOf, civil_of, year_from, month_from}
use Rattle.sig_base.proofs.Years.{year_0}

year-here : (k y n : ℕ) → n < days_in_year (pos y) → year_from (suc k) y n ≡ (y, n)
unfolding year_from
year-here k y n h = let t : nat_lt n (days_in_year (pos y)) ≡ true = lt-ltb n (days_in_year (pos y)) h in rw t refl

year-on : (k y n : ℕ) → days_in_year (pos y) ≤ n → year_from (suc k) y n ≡ year_from k (y + 1) (n - days_in_year (pos y))
unfolding year_from
year-on k y n h = let t : nat_lt n (days_in_year (pos y)) ≡ false = le-ltb n (days_in_year (pos y)) h in rw t refl

month-here : (k y m n : ℕ) → n < days_in_month (pos y) m → month_from (suc k) y m n ≡ (m, n)
unfolding month_from
month-here k y m n h = let t : nat_lt n (days_in_month (pos y) m) ≡ true = lt-ltb n (days_in_month (pos y) m) h in rw t refl

month-on : (k y m n : ℕ) → days_in_month (pos y) m ≤ n → month_from (suc k) y m n ≡ month_from k y (m + 1) (n - days_in_month (pos y) m)
unfolding month_from
month-on k y m n h = let t : nat_lt n (days_in_month (pos y) m) ≡ false = le-ltb n (days_in_month (pos y) m) h in rw t refl

-- no date of a year from 0 on is before 0000-01-01
year-low : (y m d : ℕ) → IsCivilDate (pos y) m d → day_count (pos 0) 1 1 ≤ day_count (pos y) m d
year-low zero m d is = let split = day_count-day_of_year (pos 0) m d is.2.0 in omega arith
year-low (suc y) m d is =
    let split = day_count-day_of_year (pos (suc y)) m d is.2.0 in
    let later = day_count-later_year (pos 0) (pos (suc y)) (omega (arith, signed_arith)) (omega (arith, signed_arith)) in
    omega arith

-- counting years off from an earlier one ends at the date's year
year-found : (k y0 y m d : ℕ) → IsCivilDate (pos y) m d → y0 ≤ y → y < y0 + k
    → year_from k y0 (day_count (pos y) m d - day_count (pos y0) 1 1) ≡ (y, day_of_year (pos y) m d - 1)
year-found zero y0 y m d is low high = absurd (omega arith)
year-found (suc k) y0 y m d is low high =
    let split = day_count-day_of_year (pos y) m d is.2.0 in
    let few = day_of_year_bound (pos y) m d is in
    elim (eq-or-lt_of_le low) [
      | inl e ↦
          let n : day_count (pos y) m d - day_count (pos y0) 1 1 ≡ day_of_year (pos y) m d - 1 = rw e (omega arith) in
          rw (n, e) (year-here k y (day_of_year (pos y) m d - 1) (omega arith))
      | inr l ↦
          let later = day_count-later_year (pos y0) (pos y) (omega (arith, signed_arith)) (omega (arith, signed_arith)) in
          let next : day_count (pos (y0 + 1)) 1 1 ≡ day_count (pos y0) 1 1 + days_in_year (pos y0) = day_count-next_year (pos y0) (pos (y0 + 1)) (omega (arith, signed_arith)) (omega (arith, signed_arith)) in
          let n : day_count (pos y) m d - day_count (pos y0) 1 1 - days_in_year (pos y0) ≡ day_count (pos y) m d - day_count (pos (y0 + 1)) 1 1 = omega arith in
          year-on k y0 (day_count (pos y) m d - day_count (pos y0) 1 1) (omega arith) ∙ ap (year_from k (y0 + 1)) n ∙ year-found k (y0 + 1) y m d is (omega arith) (omega arith)
    ]

-- counting months off from an earlier one ends at the date's month
month-found : (k m0 y m d : ℕ) → 1 ≤ m0 → m0 ≤ m → m < m0 + k → 1 ≤ d → d ≤ days_in_month (pos y) m
    → month_from k y m0 (day_of_year (pos y) m d - 1 - days_of_months (pos y) (m0 - 1)) ≡ (m, d - 1)
month-found zero m0 y m d one low high some few = absurd (omega arith)
month-found (suc k) m0 y m d one low high some few =
    elim (eq-or-lt_of_le low) [
      | inl e ↦
          let n : day_of_year (pos y) m d - 1 - days_of_months (pos y) (m0 - 1) ≡ d - 1 = rw e (omega arith) in
          rw (n, e) (month-here k y m (d - 1) (omega arith))
      | inr l ↦
          let mono = days_of_months_mono (pos y) m0 (m - 1) (omega arith) in
          let more = days_of_months_more (pos y) m0 one in
          let back : m0 + 1 - 1 ≡ m0 = omega arith in
          let n : day_of_year (pos y) m d - 1 - days_of_months (pos y) (m0 - 1) - days_in_month (pos y) m0 ≡ day_of_year (pos y) m d - 1 - days_of_months (pos y) (m0 + 1 - 1) = rw back (omega arith) in
          month-on k y m0 (day_of_year (pos y) m d - 1 - days_of_months (pos y) (m0 - 1)) (omega arith) ∙ ap (month_from k y (m0 + 1)) n ∙ month-found k (m0 + 1) y m d (omega arith) (omega arith) (omega arith) some few
    ]

-- a date by its year with the day's place in it
abbrev with_year : ℕ × ℕ → Civil
with_year year = let month = month_from 12 year.0 1 year.1 in record { year = year.0; month = month.0; day = month.1 + 1 }

date-at : (y m d n k : ℕ) → year_from 10000 0 n ≡ (y, k) → month_from 12 y 1 k ≡ (m, d - 1) → 1 ≤ d
    → with_year (year_from 10000 0 n) ≡ record { year = y; month = m; day = d }
date-at y m d n k e f some = let back : d - 1 + 1 ≡ d = omega arith in rw e (rw f (rw back refl))

pub civil-found : (y m d : ℕ) → IsCivilDate (pos y) m d → civil_of (days_from_civil (pos y) m d) ≡ record { year = y; month = m; day = d }
unfolding civil_of days_from_civil
civil-found y m d is =
    let low = year-low y m d is in
    let n : (pos (day_count (pos y) m d) -ℤ pos (day_count (pos 1970) 1 1)) +ℤ pos 719528 ≡ pos (day_count (pos y) m d - day_count (pos 0) 1 1) = omega (arith, signed_arith, year_0, day_count-epoch) in
    let years = year-found 10000 0 y m d is (omega arith) (omega (arith, signed_arith)) in
    let none : day_of_year (pos y) m d - 1 - days_of_months (pos y) (1 - 1) ≡ day_of_year (pos y) m d - 1 = rw (days_of_months-zero (pos y)) (omega arith) in
    let months = rw none at (month-found 12 1 y m d (omega arith) is.1.0 (omega arith) is.2.0 is.2.1) in
    rw n (date-at y m d (day_count (pos y) m d - day_count (pos 0) 1 1) (day_of_year (pos y) m d - 1) years months is.2.0)

-- the date that has a day number is the one that is counted off
pub date-found : (day : ℤ) (date : Civil) → IsDateOf day date → date ≡ civil_of day
date-found day date is = sym (rw (← is.1) (civil-found date.year date.month date.day is.0))
