-- The line of a packed hour that was refused.
use Rattle.std.specs.Prelude.{ℕ, List, [], ◌∷◌, codes, Option}
use Rattle.hour_pack.specs.declared.pack_error.PackError.{PackError}
use Rattle.hour_pack.specs.declared.pack_error.PackError.TheVariants.{Short, WrongSignal, WrongHour, TooManyRows, Row, Extra}
use Rattle.report_text.specs.Line.{line_of, num}
use Rattle.report_text.specs.Refusals.{refused}

-- the line of a packed hour that is refused, by its first fault; bytes without the mark are no packed hour, and have no such line, and out of memory has none
abbrev pub packed_text : Option ℕ → PackError → List ℕ
packed_text line Short = line_of (refused line ∷ codes "packed short" ∷ [])
packed_text line WrongSignal = line_of (refused line ∷ codes "packed wrong signal" ∷ [])
packed_text line WrongHour = line_of (refused line ∷ codes "packed wrong hour" ∷ [])
packed_text line TooManyRows = line_of (refused line ∷ codes "too many rows" ∷ [])
packed_text line (Row number) = line_of (refused line ∷ num "packed row " number ∷ [])
packed_text line Extra = line_of (refused line ∷ codes "packed extra" ∷ [])
packed_text line _ = []
