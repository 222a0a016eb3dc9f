-- The line of an accepted edit.
use Rattle.std.specs.Prelude.{ℕ, List, [], ◌∷◌, decimal, Option, Some, None}
use Rattle.sig_base.specs.declared.values.Applied.{Applied}
use Rattle.report_text.specs.Line.{line_of, num}

-- the line of an accepted edit; a load or a replacement names its rows and repeats
abbrev pub applied_text : ℕ → Option (ℕ × ℕ) → Applied → List ℕ
applied_text line None a = line_of (decimal line ∷ num " ok moved " a.from ∷ num " " a.to ∷ [])
applied_text line (Some loaded) a = line_of (decimal line ∷ num " ok rows " loaded.0 ∷ num " repeats " loaded.1 ∷ num " moved " a.from ∷ num " " a.to ∷ [])
