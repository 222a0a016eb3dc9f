-- The lines of the shifts of an approach.
use Rattle.std.specs.Prelude.{◌++◌, ◌+◌, ◌==◌, max, ℕ, List, [], ◌∷◌, codes, decimal, fold}
use Rattle.std.specs.List.{position_or_len}
use Rattle.report_text.specs.Line.{line_of, num}

-- the greatest of the counts
abbrev pub greatest : List ℕ → ℕ
greatest counts = fold max 0 counts

-- the line of the best shift, the least with which the most arrivals meet green: how many do, and of how many; `-` where there are no shifts
abbrev pub best_line : List ℕ → ℕ → List ℕ
best_line [] arrivals = line_of (codes "best -" ∷ [])
best_line cs arrivals = line_of (num "best " (position_or_len (λ c. c == greatest cs) cs) ∷ num " count " (greatest cs) ∷ num " of " arrivals ∷ [])

-- a line for each of these counts, of which the first is that of this shift: how many arrivals meet green with it
unfoldable pub shift_lines : ℕ → List ℕ → List ℕ
shift_lines shift [] = []
shift_lines shift (c ∷ cs) = line_of (num "shift " shift ∷ num " count " c ∷ []) ++ shift_lines (shift + 1) cs

-- the answer to line n of a script, which asks for the shifts of the approach of this name: the best shift, and the count of each shift of whole seconds from 0 on
abbrev pub shifts_text : ℕ → List ℕ → List ℕ → ℕ → List ℕ
shifts_text n name counts arrivals = line_of (decimal n ∷ codes " offsets " ∷ name ∷ []) ++ (best_line counts arrivals ++ shift_lines 0 counts)

-- ---- For contracts alone: parts of these texts as the code writes them

-- the least shift with which the most arrivals meet green
abbrev pub best_shift : List ℕ → ℕ
best_shift counts = position_or_len (λ c. c == greatest counts) counts

-- the line of a shift: how many arrivals meet green with it
abbrev pub shift_line : ℕ → ℕ → List ℕ
shift_line shift count = line_of (codes "shift " ∷ decimal shift ∷ codes " count " ∷ decimal count ∷ [])

-- the line before the shifts of the approach of this name
abbrev pub shifts_head : ℕ → List ℕ → List ℕ
shifts_head n name = line_of (decimal n ∷ codes " offsets " ∷ name ∷ [])
