-- Decimal numbers of a field.
use Rattle.std.specs.Prelude.{◌+◌, ◌-◌, ◌*◌, ◌&&◌, nat_le, if◌then◌else◌, ℕ, Bool, List, length, min, fold, Option, Some, None}
use Rattle.std.specs.List.{list_all}

-- the number that a digit says
abbrev pub digit : ℕ → ℕ
digit b = min (b - 48) 9

-- the number of a text of ASCII digits alone, 48 to 57, at least and at most so many, where it is within the limit
abbrev pub number_of : ℕ → ℕ → ℕ → List ℕ → Option ℕ
number_of least most limit text =
    let are_digits = list_all (λ b. nat_le 48 b && nat_le b 57) text in
    let n = fold (λ n b. 10 * n + digit b) 0 text in
    if nat_le least (length text) && nat_le (length text) most && are_digits && nat_le n limit then Some n else None

-- ---- for contracts alone

-- an ASCII digit
abbrev pub is_digit : ℕ → Bool
is_digit b = nat_le 48 b && nat_le b 57

-- each byte is a digit
abbrev pub all_digits : List ℕ → Bool
all_digits text = list_all is_digit text

-- the number whose first digits say n, and then these
abbrev pub number_from : ℕ → List ℕ → ℕ
number_from n text = fold (λ n b. 10 * n + digit b) n text
