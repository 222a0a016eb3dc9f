-- For contracts alone: the lines before answers of several lines.
use Rattle.std.specs.Prelude.{ℕ, List, [], ◌∷◌, codes, decimal}
use Rattle.report_text.specs.Line.{line_of}

-- before the measures of the window; n is the number of the script's line
abbrev pub window_head : ℕ → List ℕ
window_head n = line_of (decimal n ∷ codes " measures" ∷ [])

-- before the measures of one hour
abbrev pub hour_head : ℕ → ℕ → List ℕ
hour_head n hour = line_of (decimal n ∷ codes " measures " ∷ decimal hour ∷ [])

-- before an audit
abbrev pub audit_head : ℕ → List ℕ
audit_head n = line_of (decimal n ∷ codes " audit" ∷ [])

-- before the verdicts of one hour
abbrev pub verdicts_head : ℕ → ℕ → List ℕ
verdicts_head n hour = line_of (decimal n ∷ codes " verdicts " ∷ decimal hour ∷ [])

-- before the diagrams of phase p
abbrev pub points_head : ℕ → ℕ → List ℕ
points_head n p = line_of (decimal n ∷ codes " points " ∷ decimal p ∷ [])
