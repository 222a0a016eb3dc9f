-- A table of a machine of colours, line by line.
use Rattle.std.specs.Prelude.{ℕ, ◌+◌, ◌≤◌, Bool, true, false, not, nat_eq, nat_lt, ◌&&◌, Option, Some, None, List, [], ◌∷◌, length, slice_index, if◌then◌else◌}
use Rattle.std.specs.List.{list_any}
use Rattle.std.specs.Option.{option_map_or}
use Rattle.colour_machine.specs.Rules.{Rules}

-- a line of a table: the sign, which is a code of the log or for the coordination a parameter, is legal in these colours and leads to this one
pub record Line : Type 0 where
  pub sign : ℕ
  pub legal_in : List ℕ
  pub to : ℕ

-- a line of a table by its three parts
abbrev pub line : ℕ → List ℕ → ℕ → Line
line n cs d = record { sign = n; legal_in = cs; to = d }

-- a table: the names of the colours, of which the first is colour 0; the signs, of which the first is letter 0; and where the signs lead
pub record Table : Type 0 where
  pub names : List (List ℕ)
  pub signs : List ℕ
  pub lines : List Line

-- the place of a sign among signs, the first of which has place k
abbrev pub place_from : ℕ → ℕ → List ℕ → Option ℕ
place_from k n [] = None
place_from k n (x ∷ xs) = if nat_eq x n then Some k else place_from (k + 1) n xs

-- the place of a sign, from 0: its letter
abbrev pub place_of : ℕ → List ℕ → Option ℕ
place_of n xs = place_from 0 n xs

-- the colour that letter l leads to in colour c, by the first line whose sign has this letter and which is legal in this colour; none where no line is so
abbrev pub next_by : List ℕ → List Line → ℕ → ℕ → Option ℕ
next_by signs [] c l = None
next_by signs (x ∷ xs) c l =
    if option_map_or (λ k. nat_eq k l) (place_of x.sign signs) false && list_any (λ y. nat_eq y c) x.legal_in then Some x.to else next_by signs xs c l

-- For contracts alone: the sign has this letter.
abbrev pub is_letter : Option ℕ → ℕ → Bool
is_letter place l = option_map_or (λ k. nat_eq k l) place false

-- the machine of a table, with a floor for each colour in tenths of a second
abbrev pub table_rules : Table → List ℕ → Rules
table_rules t floors = record { colours = length t.names; letters = length t.signs; next = next_by t.signs t.lines; floor = slice_index floors }

-- every floor is at most an hour
abbrev pub AreFloors : List ℕ → Type 0
AreFloors floors = (c : ℕ) → slice_index floors c ≤ 36000

-- no line of the list has the sign of this one in one of its colours
abbrev pub is_apart : Line → List Line → Bool
is_apart x [] = true
is_apart x (y ∷ ys) = not (nat_eq x.sign y.sign && list_any (λ c. list_any (λ d. nat_eq c d) y.legal_in) x.legal_in) && is_apart x ys

-- each line has one of the signs, is legal in colours below n, leads to one, and no two say where one sign leads in one colour
abbrev pub lines_fit : ℕ → List ℕ → List Line → Bool
lines_fit n signs [] = true
lines_fit n signs (x ∷ xs) =
    nat_lt x.to n && (list_any (λ s. nat_eq s x.sign) signs && not (list_any (λ c. not (nat_lt c n)) x.legal_in) && is_apart x xs && lines_fit n signs xs)

-- a machine's table: 1 to 16 colours, at most 32 signs, and lines that fit
abbrev pub table_fits : Table → Bool
table_fits t = nat_lt 0 (length t.names) && (nat_lt (length t.names) 17 && (nat_lt (length t.signs) 33 && lines_fit (length t.names) t.signs t.lines))
