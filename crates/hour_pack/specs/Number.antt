-- A number: one to three bytes of seven bits each, the lowest first.
use Rattle.std.specs.Prelude.{◌≡◌, ◌<◌, ◌≤◌, ◌+◌, ◌*◌, ◌/◌, ◌%◌, nat_lt, if◌then◌else◌, ℕ, List, [], ◌∷◌, length}

-- what bytes stand for: the low seven bits of each, those of the first one the lowest
abbrev pub value_of : List ℕ → ℕ
value_of [] = 0
value_of (b ∷ bs) = b % 128 + 128 * value_of bs

-- the bytes behind the first one: each but the last is at least 128, the last is less and isn't 0
abbrev pub EndsNumber : List ℕ → Type 0
EndsNumber [] = ⊥
EndsNumber (b ∷ []) = (0 < b) × (b < 128)
EndsNumber (b ∷ c ∷ bs) = (128 ≤ b) × (b < 256) × EndsNumber (c ∷ bs)

-- one byte below 128; or more bytes, the first of which is at least 128
abbrev pub IsNumber : List ℕ → Type 0
IsNumber [] = ⊥
IsNumber (b ∷ []) = b < 128
IsNumber (b ∷ c ∷ bs) = (128 ≤ b) × (b < 256) × EndsNumber (c ∷ bs)

-- the bytes are a number, and it is this one
pub record Spells (bytes : List ℕ) (n : ℕ) : Type 0 where
  pub few : length bytes ≤ 3
  pub number : IsNumber bytes
  pub value : n ≡ value_of bytes

-- a number below 2 ^ 21 in a packed hour: one to three bytes of seven bits each, the lowest first
unfoldable pub number_bytes : ℕ → List ℕ
number_bytes n =
    if nat_lt n 128 then n ∷ []
    else if nat_lt n 16384 then (128 + n % 128) ∷ n / 128 ∷ []
    else (128 + n % 128) ∷ (128 + n / 128 % 128) ∷ n / 128 / 128 ∷ []
