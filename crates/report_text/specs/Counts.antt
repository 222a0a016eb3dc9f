-- The text of a count.
use Rattle.std.specs.Prelude.{◌≡◌, ◌<◌, ◌==◌, ◌++◌, ◌+◌, if◌then◌else◌, ℕ, zero, suc, List, [], ◌∷◌, length, slice_index, codes, decimal}
use Rattle.sig_base.specs.declared.values.Row.{Row}
use Rattle.event_codes.specs.Names.{code_name}
use Rattle.row_reader.specs.Count.{count_of}
use Rattle.report_text.specs.Line.{line_of, num}

-- the line of a code with its name and how many of these rows have it, if any do
abbrev pub code_line : List Row → ℕ → List ℕ
code_line rows code =
    if count_of rows code == 0 then [] else line_of (num "code " code ∷ codes " " ∷ code_name code ∷ num " " (count_of rows code) ∷ [])

-- the lines of so many codes from this one on
unfoldable pub code_lines : List Row → ℕ → ℕ → List ℕ
code_lines rows zero code = []
code_lines rows (suc n) code = code_line rows code ++ code_lines rows n (code + 1)

-- the answer to a count: how many rows and repeats there are, and how many rows of each code
abbrev pub count_text : List Row → ℕ → List ℕ
count_text rows repeats = line_of (num "rows " (length rows) ∷ num " repeats " repeats ∷ []) ++ code_lines rows 256 0

-- ---- For contracts alone

-- at each code stands how many rows have it
abbrev pub IsTally : List ℕ → List Row → Type 0
IsTally tally rows = (code : ℕ) → code < 256 → slice_index tally code ≡ count_of rows code

-- the line of a code with its name and a count, unless that is 0
abbrev pub code_count_line : ℕ → ℕ → List ℕ
code_count_line code count =
    if count == 0 then []
    else line_of (codes "code " ∷ decimal code ∷ codes " " ∷ code_name code ∷ codes " " ∷ decimal count ∷ [])
