-- Why bytes are refused as a packed hour, in the words of the format.
use Rattle.std.specs.Prelude.{◌≡◌, ◌≢◌, ◌<◌, ◌≤◌, ◌+◌, ◌-◌, ◌*◌, ◌^◌, ◌⊎◌, true, ℕ, List, [], ◌∷◌, ◌++◌, length, take}
use Rattle.std.specs.Int.{w32, to_be_bytes}
use Rattle.std.specs.List.{AllByRecursion}
use Rattle.sig_base.specs.declared.values.Row.{Row}
use Rattle.sig_base.specs.Window.{Span}
use Rattle.row_reader.specs.Repeats.{is_repeat}
use Rattle.hour_pack.specs.declared.pack_error.PackError.{PackError}
use Rattle.hour_pack.specs.declared.pack_error.PackError.TheVariants.{NotPacked, Short, WrongSignal, WrongHour, TooManyRows, Extra, Memory}
use Rattle.hour_pack.specs.declared.pack_error.PackError.TheVariants.{Row as BadRow}
use Rattle.hour_pack.specs.Grammar.{ArePackable, IsEvent, head_bytes, hour_part, mark, packed, row_bytes, rows_bytes, signal_part}
use Rattle.hour_pack.specs.Number.{number_bytes}

-- ---- parts

-- the bytes begin as the part does, up to one that differs
pub record Differs (part bytes : List ℕ) : Type 0 where
  pub front : List ℕ
  pub wanted : ℕ
  pub wanted_rest : List ℕ
  pub found : ℕ
  pub found_rest : List ℕ
  pub of_part : part ≡ front ++ wanted ∷ wanted_rest
  pub of_bytes : bytes ≡ front ++ found ∷ found_rest
  pub other : wanted ≢ found

-- the bytes begin as the part does, and end before it does
pub record EndsWithin (part bytes : List ℕ) : Type 0 where
  pub next : ℕ
  pub more : List ℕ
  pub of_part : part ≡ bytes ++ next ∷ more

-- ---- numbers

-- a number has begun, and isn't whole: fewer than three bytes, each at least 128
abbrev pub IsOpen : List ℕ → Type 0
IsOpen bytes = (length bytes < 3) × AllByRecursion (λ b. 128 ≤ b) bytes

-- a third byte is 0, or at least 128
abbrev pub IsBadThird : List ℕ → Type 0
IsBadThird [] = ⊥
IsBadThird (c ∷ bytes) = (c ≡ 0) ⊎ (128 ≤ c)

-- a second byte is 0, or goes on with a bad third one
abbrev pub IsBadSecond : List ℕ → Type 0
IsBadSecond [] = ⊥
IsBadSecond (b ∷ bytes) = (b ≡ 0) ⊎ ((128 ≤ b) × IsBadThird bytes)

-- no number is spelled so: the last byte is 0 and isn't alone, or the third one is at least 128
abbrev pub IsBadNumber : List ℕ → Type 0
IsBadNumber [] = ⊥
IsBadNumber (a ∷ bytes) = (128 ≤ a) × IsBadSecond bytes

-- ---- rows

-- the tenth of the last of these rows, or the hour's start
abbrev pub last_tenth : ℕ → List Row → ℕ
last_tenth start [] = start
last_tenth start (row ∷ rows) = last_tenth row.at rows

-- what begins here can't be the row behind these, the last of which is at this tenth
pub data IsBadRow (to last : ℕ) (kept : List Row) (bytes : List ℕ) : Type 0 where
  -- the tenths since the row before aren't spelled as a number is
  bad_since : IsBadNumber bytes → IsBadRow to last kept bytes
  -- the tenth is past the hour
  past_hour : (since : ℕ) (rest : List ℕ) → since < 2 ^ 21 → bytes ≡ number_bytes since ++ rest → to ≤ last + since
      → IsBadRow to last kept bytes
  -- the parameter isn't spelled as a number is
  bad_param : (at code : ℕ) (rest : List ℕ) → last ≤ at → at < to → bytes ≡ number_bytes (at - last) ++ code ∷ rest → IsBadNumber rest
      → IsBadRow to last kept bytes
  -- the parameter is over 65,535
  large_param : (at code param : ℕ) (rest : List ℕ) → last ≤ at → at < to → 65535 < param → param < 2 ^ 21
      → bytes ≡ number_bytes (at - last) ++ code ∷ (number_bytes param ++ rest)
      → IsBadRow to last kept bytes
  -- the row is a repeat
  repeated : (row : Row) (rest : List ℕ) → last ≤ row.at → row.at < to → IsEvent row → bytes ≡ row_bytes last row ++ rest → is_repeat kept row ≡ true
      → IsBadRow to last kept bytes

-- what begins here may be a row, and ends before that is whole
pub data IsCutRow (to last : ℕ) (bytes : List ℕ) : Type 0 where
  in_since : IsOpen bytes → IsCutRow to last bytes
  before_code : (at : ℕ) → last ≤ at → at < to → bytes ≡ number_bytes (at - last) → IsCutRow to last bytes
  in_param : (at code : ℕ) (rest : List ℕ) → last ≤ at → at < to → bytes ≡ number_bytes (at - last) ++ code ∷ rest → IsOpen rest → IsCutRow to last bytes

-- ---- a packed hour

-- the bytes begin as the packed hour of this signal and this hour, with a count and fewer whole rows than that
pub record Begins (signal : List ℕ) (window : Span) (hour : ℕ) (bytes : List ℕ) : Type 0 where
  pub count : ℕ
  pub rows : List Row
  pub rest : List ℕ
  pub few : count ≤ 400000
  pub fewer : length rows < count
  pub packable : ArePackable hour rows
  pub parts : bytes ≡ head_bytes signal window hour ++ to_be_bytes w32 count ++ rows_bytes (36000 * hour) rows ++ rest

abbrev pub hour_end : ℕ → ℕ
hour_end hour = 36000 * hour + 36000

-- the bytes end before the last row is whole, without a fault before that
pub data EndsEarly (signal : List ℕ) (window : Span) (hour : ℕ) (bytes : List ℕ) : Type 0 where
  in_head : (rest : List ℕ) → bytes ≡ mark ++ rest → EndsWithin (signal_part signal ++ hour_part window hour) rest → EndsEarly signal window hour bytes
  in_count : (rest : List ℕ) → bytes ≡ head_bytes signal window hour ++ rest → length rest < 4 → EndsEarly signal window hour bytes
  in_row : (b : Begins signal window hour bytes) → IsCutRow (hour_end hour) (last_tenth (36000 * hour) b.rows) b.rest → EndsEarly signal window hour bytes

-- when each error comes; that memory ran out, which may come at any time, is never due to the bytes
abbrev pub HasCause : List ℕ → Span → ℕ → List ℕ → PackError → Type 0
HasCause signal window hour bytes NotPacked = take 4 bytes ≢ mark
HasCause signal window hour bytes Short = EndsEarly signal window hour bytes
HasCause signal window hour bytes WrongSignal = (rest : List ℕ) × (bytes ≡ mark ++ rest) × Differs (signal_part signal) rest
HasCause signal window hour bytes WrongHour =
    (rest : List ℕ) × (bytes ≡ mark ++ signal_part signal ++ rest) × Differs (hour_part window hour) rest
HasCause signal window hour bytes TooManyRows =
    (count : ℕ) × (rest : List ℕ) × (400000 < count) × (count < 2 ^ 32) × (bytes ≡ head_bytes signal window hour ++ to_be_bytes w32 count ++ rest)
HasCause signal window hour bytes (BadRow n) =
    (b : Begins signal window hour bytes) × (n ≡ length b.rows + 1) × IsBadRow (hour_end hour) (last_tenth (36000 * hour) b.rows) b.rows b.rest
HasCause signal window hour bytes Extra =
    (rows : List Row) × (byte : ℕ) × (more : List ℕ) × ArePackable hour rows × (bytes ≡ packed signal window hour rows ++ byte ∷ more)
HasCause signal window hour bytes Memory = ⊥
