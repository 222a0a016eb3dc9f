-- A minute of a day, as its stamps begin.
use Rattle.std.specs.Prelude.{◌≡◌, ◌+◌, ◌++◌, ℕ, ℤ, List, Some}
use Rattle.row_reader.specs.Stamp.{cut, seconds_of, stamp_of}

-- where a number of seconds follows this text, it is a stamp of this day, so many tenths after this one
abbrev pub IsMinute : List ℕ → ℤ → ℕ → Type 0
IsMinute text day start =
    (rest : List ℕ) (s : ℕ) → seconds_of (cut 46 rest) rest ≡ Some s → stamp_of (text ++ rest) ≡ Some (day, start + s)
