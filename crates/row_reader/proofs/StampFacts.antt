-- Facts on stamps.
use Rattle.std.proofs.Common.{◌≡◌, ◌≤◌, ◌+◌, ◌-◌, ℕ, arith, true, refl, ap, ◌∙◌, List, length, take, drop}
use Rattle.std.specs.Prelude.{ℤ, pos, negsuc, ◌≤ℤ◌, ◌==◌, Option, Some, option_map, position}
use Rattle.std.proofs.lemmas.List.{take_rest}
use Rattle.std.proofs.lemmas.Bool.Decides.{nat_tests}
use Rattle.std.proofs.lemmas.Int.{ints}
use Rattle.jiff_core.specs.Calendar.{IsDate, days_from_civil, days_in_month}
use Rattle.row_reader.specs.Stamp.{is_civil, civil_day, cut}
use Rattle.row_reader.proofs.DayFacts.{day-low}

civil-true : (y m d k : ℕ) → 1 ≤ m → m ≤ 12 → 1 ≤ d → d ≤ k → k ≡ days_in_month (pos y) m → is_civil y m d ≡ true
civil-true y m d k a b e f g = grind (arith, nat_tests)

-- the day number of a date that the calendar has
pub civil_day-known : (y m d : ℕ) (zy zm zd : ℤ) (dy : ℤ) (dm dd : ℕ) (r z : ℤ)
    → dy ≡ zy → pos dm ≡ zm → pos dd ≡ zd → zy ≡ pos y → zm ≡ pos m → zd ≡ pos d → IsDate zy zm zd
    → r ≡ days_from_civil dy dm dd → z ≡ r → Some z ≡ civil_day y m d
civil_day-known y m d zy zm zd dy dm dd r z ey em ed fy fm fd is er ez =
    let gm : dm ≡ m = cc in
    let gd : dd ≡ d = cc in
    let gy : dy ≡ pos y = cc in
    let e : z ≡ days_from_civil (pos y) m d = ez ∙ (rw (gy, gm, gd) at er) in
    let at_plain = rw (fy, fm, fd) at is in
    let t : is_civil y m d ≡ true = civil-true y m d (days_in_month (pos y) m) (omega (arith, ints)) (omega (arith, ints)) (omega (arith, ints)) (omega (arith, ints)) refl in
    rw (t, e) refl

-- no date of a year from 0 on is before 0000-01-01
pub civil_day-low : (y m d : ℕ) (zy zm zd : ℤ) (dy : ℤ) (dm dd : ℕ) (r : ℤ)
    → dy ≡ zy → pos dm ≡ zm → pos dd ≡ zd → zy ≡ pos y → zm ≡ pos m → zd ≡ pos d → IsDate zy zm zd
    → r ≡ days_from_civil dy dm dd → negsuc 719527 ≤ℤ r
civil_day-low y m d zy zm zd dy dm dd r ey em ed fy fm fd is er =
    let gm : dm ≡ m = cc in
    let gd : dd ≡ d = cc in
    let gy : dy ≡ pos y = cc in
    let e : r ≡ days_from_civil (pos y) m d = rw (gy, gm, gd) at er in
    let at_plain = rw (fy, fm, fd) at is in
    rw e (day-low y m d (omega (arith, ints)))

-- both parts of a text, around the first such byte
pub cut-known : (mark : ℕ) (text : List ℕ) (i : ℕ) → Some i ≡ position (λ b. b == mark) text
    → Some (take i text, take (length text - (i + 1)) (drop (i + 1) text)) ≡ cut mark text
cut-known mark text i e =
    rw (take_rest text (i + 1)) (ap (λ (o : Option ℕ). option_map (λ k. (take k text, drop (k + 1) text)) o) e)
