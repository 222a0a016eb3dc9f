-- A number of a field, as it is written.
use Rattle.std.specs.Prelude.{◌≡◌, ◌↔◌, ◌<◌, ◌≤◌, ◌^◌, ℕ, List, ◌++◌, length, replicate, decimal, Some}
use Rattle.row_reader.specs.Number.{number_of}

-- the text is the number in decimal, after zeros or none, where 0x30 is `0`; it has `least` to `most` digits
pub record IsNumber (least most : ℕ) (text : List ℕ) (n : ℕ) : Type 0 where
  pub zeros : ℕ
  pub form : text ≡ replicate zeros 0x30 ++ decimal n
  pub enough : least ≤ length text
  pub few : length text ≤ most

-- exactly the texts of numbers within the limit are read; a field has at least one digit, and the limit 32 bits
abbrev pub NumbersAreRead : Type 0
NumbersAreRead = (least most limit : ℕ) (text : List ℕ) (n : ℕ) → 1 ≤ least → limit < 2 ^ 32 → (number_of least most limit text ≡ Some n) ↔ (IsNumber least most text n × (n ≤ limit))
