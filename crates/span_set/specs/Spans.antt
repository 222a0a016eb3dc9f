-- Sets of tenths as ranges.
use Rattle.std.specs.Prelude.{◌⊎◌, ℤ, pos, negsuc, ◌^◌, ◌+◌, ◌<ℤ◌, ◌≤ℤ◌, int_lt, int_le, Bool, false, ◌&&◌, ◌||◌, List, [], ◌∷◌}
use Rattle.span_set.specs.declared.set.Span.{Span}

-- the tenth lies in the range
abbrev pub Within : Span → ℤ → Type 0
Within s e = (s.from ≤ℤ e) × (e <ℤ s.to)

-- the tenth lies in one of the ranges
abbrev pub Member : List Span → ℤ → Type 0
Member [] e = ⊥
Member (s ∷ ss) e = Within s e ⊎ Member ss e

-- the tenth lies in one of the ranges, as a test
abbrev pub is_member : List Span → ℤ → Bool
is_member [] e = false
is_member (s ∷ ss) e = (int_le s.from e && int_lt e s.to) || is_member ss e

-- the ranges come after low in order, none is empty, none touches the next, and the last member is at most 2 ^ 40
abbrev pub Above : ℤ → List Span → Type 0
Above low [] = Unit {0}
Above low (s ∷ ss) = (low <ℤ s.from) × (s.from <ℤ s.to) × (s.to ≤ℤ pos (2 ^ 40 + 1)) × Above s.to ss

-- the one list of ranges of a set of tenths from - 2 ^ 40 to 2 ^ 40
abbrev pub AreRanges : List Span → Type 0
AreRanges ss = Above (negsuc (2 ^ 40)) ss

-- a member from f up to t
abbrev pub AnyIn : List Span → ℤ → ℤ → Type 0
AnyIn ss f t = (e : ℤ) × Member ss e × (f ≤ℤ e) × (e <ℤ t)

-- the first range begins before the limit: some member is below it
abbrev pub BeginsBelow : ℤ → List Span → Type 0
BeginsBelow limit [] = ⊥
BeginsBelow limit (s ∷ ss) = s.from <ℤ limit
