-- The day numbers of the years from 0 on.
use Rattle.std.proofs.Common.{◌≡◌, ◌≤◌, ◌+◌, ℕ, zero, suc, pos, negsuc, ◌≤ℤ◌, refl, arith}
use Rattle.jiff_core.specs.Calendar.{days_from_civil, day_count, day_of_year}
use Rattle.jiff_core.proofs.CalendarLemmas.{day_count-day_of_year, day_count-later_year}
use Rattle.jiff_core.proofs.MarchLemmas.{day_count-early}
use Rattle.jiff_core.proofs.SignedLemmas.{signed_arith}
use Rattle.sig_base.proofs.Years.{year_0}

year_1970 : day_count (pos 1970) 1 1 ≡ 4371953
year_1970 = day_count-early (pos 1970) 11969 1 1 refl (omega arith) (omega arith) (omega arith)

year-low : (y : ℕ) → 3652425 ≤ day_count (pos y) 1 1
year-low zero = omega (arith, year_0)
year-low (suc y) = omega (arith, year_0, day_count-later_year (pos 0) (pos (suc y)) (omega (arith, signed_arith)) (omega (arith, signed_arith)))

-- no day of a year from 0 on is before 0000-01-01
pub day-low : (y m d : ℕ) → 1 ≤ d → negsuc 719527 ≤ℤ days_from_civil (pos y) m d
unfolding days_from_civil
day-low y m d h =
    let a : 3652425 ≤ day_count (pos y) 1 1 = year-low y in
    let b : day_count (pos y) m d + 1 ≡ day_count (pos y) 1 1 + day_of_year (pos y) m d = day_count-day_of_year (pos y) m d h in
    rw year_1970 (omega (arith, signed_arith))
