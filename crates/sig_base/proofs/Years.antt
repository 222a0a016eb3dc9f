-- The years of the days that a window has.
use Rattle.std.proofs.Common.{◌≡◌, ◌≤◌, ◌<◌, ℕ, ℤ, pos, negsuc, ◌≤ℤ◌, refl, arith, w16, to_z, of_z}
use Rattle.jiff_core.specs.Calendar.{IsCivilDate, days_from_civil, day_count}
use Rattle.jiff_core.proofs.CalendarLemmas.{day_count-lt_year, day_count-epoch}
use Rattle.jiff_core.proofs.MarchLemmas.{day_count-early}
use Rattle.jiff_core.proofs.SignedLemmas.{signed_arith, back_small}

pub year_0 : day_count (pos 0) 1 1 ≡ 3652425
year_0 = day_count-early (pos 0) 9999 1 1 refl (omega arith) (omega arith) (omega arith)

-- a date from 0000-01-01 on has no year before 0
pub year-from_0 : (y : ℤ) (m d : ℕ) → IsCivilDate y m d → negsuc 719527 ≤ℤ days_from_civil y m d → pos 0 ≤ℤ y
unfolding days_from_civil
year-from_0 (pos n) m d is h = omega (arith, signed_arith)
year-from_0 (negsuc n) m d is h =
    let early : day_count (negsuc n) m d < day_count (pos 0) 1 1 = day_count-lt_year (negsuc n) m d (pos 0) 1 1 is (omega arith) (omega (arith, signed_arith)) in
    omega (arith, signed_arith, year_0, day_count-epoch)

-- the year of such a date, as the two casts from a signed number leave it
pub year-cast : (y : ℤ) (m d : ℕ) (day : ℤ) → IsCivilDate y m d → days_from_civil y m d ≡ day → negsuc 719527 ≤ℤ day → (n : ℕ) × (to_z w16 (of_z w16 y) ≡ pos n) × (y ≡ pos n) × (n ≤ 9999)
year-cast (pos n) m d day is e h = (n, back_small w16 (pos n) (omega (arith, signed_arith)), refl, omega (arith, signed_arith))
year-cast (negsuc n) m d day is e h =
    let low : pos 0 ≤ℤ negsuc n = year-from_0 (negsuc n) m d is (rw e h) in
    absurd (omega (arith, signed_arith))
