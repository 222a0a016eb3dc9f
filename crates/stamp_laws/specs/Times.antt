-- A time of day.
use Rattle.std.specs.Prelude.{◌≡◌, ◌↔◌, ◌≤◌, ◌⊎◌, ◌+◌, ◌*◌, ℕ, List, [], ◌++◌, length, codes, decimal, Some, All}
use Rattle.row_reader.specs.Stamp.{time_of}
use Rattle.stamp_laws.specs.Numbers.{IsNumber}

-- `0` to `9`
abbrev pub IsDigit : ℕ → Type 0
IsDigit b = (0x30 ≤ b) × (b ≤ 0x39)

-- a dot and one to nine digits, of which the first is the tenth and the others don't count
pub record IsBroken (text : List ℕ) (tenth : ℕ) : Type 0 where
  pub more : List ℕ
  pub form : text ≡ codes "." ++ decimal tenth ++ more
  pub one : tenth ≤ 9
  pub digits : All IsDigit more
  pub few : length more ≤ 8

-- what stands after the second: a fraction, or nothing
abbrev pub IsFraction : List ℕ → ℕ → Type 0
IsFraction text tenth = IsBroken text tenth ⊎ ((text ≡ []) × (tenth ≡ 0))

-- H:MM:SS with an hour of one or two digits, and a fraction or none: so many tenths after midnight
pub record IsTime (text : List ℕ) (tenths : ℕ) : Type 0 where
  pub hour_text : List ℕ
  pub minute_text : List ℕ
  pub second_text : List ℕ
  pub fraction : List ℕ
  pub form : text ≡ hour_text ++ codes ":" ++ minute_text ++ codes ":" ++ second_text ++ fraction
  pub hour : ℕ
  pub minute : ℕ
  pub second : ℕ
  pub tenth : ℕ
  pub hour_is : IsNumber 1 2 hour_text hour
  pub minute_is : IsNumber 2 2 minute_text minute
  pub second_is : IsNumber 2 2 second_text second
  pub fraction_is : IsFraction fraction tenth
  pub hours : hour ≤ 23
  pub minutes : minute ≤ 59
  pub seconds : second ≤ 59
  pub is : tenths ≡ 36000 * hour + 600 * minute + 10 * second + tenth

-- exactly the texts of times are read as times
abbrev pub TimesAreRead : Type 0
TimesAreRead = (text : List ℕ) (tenths : ℕ) → (time_of text ≡ Some tenths) ↔ IsTime text tenths
