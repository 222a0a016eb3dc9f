-- What each change makes of the ranges, range by range.
use Rattle.std.specs.Prelude.{ℤ, pos, ◌+ℤ◌, ◌≤ℤ◌, int_lt, cond, List, [], ◌∷◌, ◌++◌}
use Rattle.std.specs.Int.{int_max, int_min}
use Rattle.span_set.specs.declared.set.Span.{Span}

abbrev pub span : ℤ → ℤ → Span
span f t = record { from = f; to = t }

-- each of the ranges ends at the tenth or before
abbrev pub AllEnd : ℤ → List Span → Type 0
AllEnd at [] = Unit {0}
AllEnd at (s ∷ ss) = (s.to ≤ℤ at) × AllEnd at ss

-- the range from f up to t joined with those that it meets, where the first one doesn't end before f
abbrev pub join : ℤ → ℤ → List Span → List Span
join f t [] = span f t ∷ []
join f t (s ∷ ss) = cond (int_lt t s.from) (span f t ∷ s ∷ ss) (join (int_min f s.from) (int_max t s.to) ss)

-- the ranges with one more added
abbrev pub add_to : ℤ → ℤ → List Span → List Span
add_to f t [] = span f t ∷ []
add_to f t (s ∷ ss) = cond (int_lt s.to f) (s ∷ add_to f t ss) (join f t (s ∷ ss))

-- what the first range has before the tenth
abbrev pub part_before : ℤ → List Span → List Span
part_before f [] = []
part_before f (s ∷ ss) = cond (int_lt s.from f) (span s.from f ∷ []) []

-- the ranges, where the first one begins no earlier than the tenth
abbrev pub from_on : ℤ → List Span → List Span
from_on t [] = []
from_on t (s ∷ ss) = span (int_max s.from t) s.to ∷ ss

-- the ranges without what lies before the tenth
abbrev pub cut_to : ℤ → List Span → List Span
cut_to t [] = []
cut_to t (s ∷ ss) = cond (int_lt t s.to) (from_on t (s ∷ ss)) (cut_to t ss)

-- the ranges without the tenths from f up to t
abbrev pub cut : ℤ → ℤ → List Span → List Span
cut f t [] = []
cut f t (s ∷ ss) = cond (int_lt f s.to) (part_before f (s ∷ ss) ++ cut_to t (s ∷ ss)) (s ∷ cut f t ss)

-- the ranges without the tenths from f on
abbrev pub keep_to : ℤ → List Span → List Span
keep_to f [] = []
keep_to f (s ∷ ss) = cond (int_lt f s.to) (part_before f (s ∷ ss)) (s ∷ keep_to f ss)

-- the ranges with limit in place of the tenths below it, of which there is one
abbrev pub squash : ℤ → List Span → List Span
squash limit [] = span limit (limit +ℤ pos 1) ∷ []
squash limit (s ∷ ss) = cond (int_lt limit s.to) (cond (int_lt (limit +ℤ pos 1) s.from) (span limit (limit +ℤ pos 1) ∷ s ∷ ss) (span limit s.to ∷ ss)) (squash limit ss)
