-- A window of hours, and the place of a tenth in it.
use Rattle.std.specs.Prelude.{◌<◌, ◌≤◌, ◌+◌, ◌-◌, ◌*◌, ◌/◌, ℕ, ℤ, pos, negsuc, ◌+ℤ◌, ◌-ℤ◌, ◌*ℤ◌, ◌≤ℤ◌}

-- the first day and the hour in it at which a window begins, and how many hours it has
pub record Span : Type 0 where
  pub day : ℤ
  pub hour : ℕ
  pub hours : ℕ

-- the days of the years 0000 to 9999, counted from 1970-01-01
abbrev pub IsDay : ℤ → Type 0
IsDay day = (negsuc 719527 ≤ℤ day) × (day ≤ℤ pos 2932896)

-- a window has 1 to 744 hours, all of them in the years 0000 to 9999
pub record IsWindow (day : ℤ) (hour hours : ℕ) : Type 0 where
  pub in_day : hour < 24
  pub some : 1 ≤ hours
  pub few : hours ≤ 744
  pub first : IsDay day
  pub last : IsDay (day +ℤ pos ((hour + hours - 1) / 24))

-- the tenth of a window at which a tenth of a day lies; it may lie outside
abbrev pub tenth_in : Span → ℤ → ℕ → ℤ
tenth_in w day at = (((day -ℤ w.day) *ℤ pos 864000) +ℤ pos at) -ℤ pos (36000 * w.hour)
