-- The line of what was refused.
use Rattle.std.specs.Prelude.{◌++◌, ◌<◌, ◌*◌, ℕ, List, [], ◌∷◌, codes, decimal, Option, Some, None, ⊤}
use Rattle.sig_base.specs.declared.values.EditError.{EditError}
use Rattle.sig_base.specs.declared.values.EditError.TheVariants.{OutOfWindow, AlreadyHeld, NotHeld, EmptyRange, TooManyRows as TooManyHeldRows, TooManyBlanks, Contradiction}
use Rattle.sig_base.specs.Window.{Span}
use Rattle.sig_base.specs.Stamp.{stamp_at}
use Rattle.row_reader.specs.declared.row_error.RowError.{RowError}
use Rattle.row_reader.specs.declared.row_error.RowError.TheVariants.{TooManyRows, Fields, WrongSignal, Stamp, OutsideHour, Code, Param, Memory}
use Rattle.report_text.specs.declared.refusal.Refusal.{Refusal}
use Rattle.report_text.specs.declared.refusal.Refusal.TheVariants.{BadLine, MissingFile, FileTooLong, File, Edit}
use Rattle.report_text.specs.Line.{line_of, num}

-- what stands before a reason: the number of a script's line, or none for the file that is counted
abbrev pub refused : Option ℕ → List ℕ
refused None = codes "refused "
refused (Some line) = decimal line ++ codes " refused "

-- the line of a refusal: of a log file its first bad record, and the test that it fails; of an edit the reason, and of a contradiction the row at which it shows; out of memory has none
abbrev pub refusal_text : Span → Option ℕ → Refusal → List ℕ
refusal_text w line BadLine = line_of (refused line ∷ codes "bad line" ∷ [])
refusal_text w line MissingFile = line_of (refused line ∷ codes "missing file" ∷ [])
refusal_text w line FileTooLong = line_of (refused line ∷ codes "file too long" ∷ [])
refusal_text w line (File TooManyRows) = line_of (refused line ∷ codes "too many rows" ∷ [])
refusal_text w line (File (Fields n)) = line_of (refused line ∷ num "row " n ∷ codes " fields" ∷ [])
refusal_text w line (File (WrongSignal n)) = line_of (refused line ∷ num "row " n ∷ codes " wrong signal" ∷ [])
refusal_text w line (File (Stamp n)) = line_of (refused line ∷ num "row " n ∷ codes " stamp" ∷ [])
refusal_text w line (File (OutsideHour n)) = line_of (refused line ∷ num "row " n ∷ codes " outside hour" ∷ [])
refusal_text w line (File (Code n)) = line_of (refused line ∷ num "row " n ∷ codes " code" ∷ [])
refusal_text w line (File (Param n)) = line_of (refused line ∷ num "row " n ∷ codes " param" ∷ [])
refusal_text w line (Edit OutOfWindow) = line_of (refused line ∷ codes "out of window" ∷ [])
refusal_text w line (Edit AlreadyHeld) = line_of (refused line ∷ codes "already held" ∷ [])
refusal_text w line (Edit NotHeld) = line_of (refused line ∷ codes "not held" ∷ [])
refusal_text w line (Edit EmptyRange) = line_of (refused line ∷ codes "empty range" ∷ [])
refusal_text w line (Edit TooManyHeldRows) = line_of (refused line ∷ codes "too many held rows" ∷ [])
refusal_text w line (Edit TooManyBlanks) = line_of (refused line ∷ codes "too many blanks" ∷ [])
refusal_text w line (Edit (Contradiction row)) =
    line_of (refused line ∷ codes "contradiction " ∷ stamp_at w row.at ∷ num " code " row.code ∷ num " param " row.param ∷ [])
refusal_text w line _ = []

-- ---- For contracts alone

-- the line of a refused log file
abbrev pub file_text : Option ℕ → RowError → List ℕ
file_text line TooManyRows = line_of (refused line ∷ codes "too many rows" ∷ [])
file_text line (Fields n) = line_of (refused line ∷ num "row " n ∷ codes " fields" ∷ [])
file_text line (WrongSignal n) = line_of (refused line ∷ num "row " n ∷ codes " wrong signal" ∷ [])
file_text line (Stamp n) = line_of (refused line ∷ num "row " n ∷ codes " stamp" ∷ [])
file_text line (OutsideHour n) = line_of (refused line ∷ num "row " n ∷ codes " outside hour" ∷ [])
file_text line (Code n) = line_of (refused line ∷ num "row " n ∷ codes " code" ∷ [])
file_text line (Param n) = line_of (refused line ∷ num "row " n ∷ codes " param" ∷ [])
file_text line Memory = []

-- the line of a refused edit
abbrev pub edit_text : Span → Option ℕ → EditError → List ℕ
edit_text w line error = refusal_text w line (Edit error)

-- the refusal of a record, by its number
abbrev pub record_reason : ℕ → List ℕ → List ℕ
record_reason number test = line_of (codes "row " ∷ decimal number ∷ codes " " ∷ test ∷ [])

-- the row that a refusal names is in the window
abbrev pub NamesRowIn : Span → EditError → Type 0
NamesRowIn w (Contradiction row) = row.at < 36000 * w.hours
NamesRowIn w _ = ⊤

-- the row that a refusal names, if it is one of an edit, is in the window
abbrev pub IsOfWindow : Span → Refusal → Type 0
IsOfWindow w (Edit error) = NamesRowIn w error
IsOfWindow w _ = ⊤
