-- The cut, blanked range by blanked range.
use Rattle.std.specs.Prelude.{ℕ, ℤ, pos, negsuc, min, max, Bool, true, false, nat_lt, if◌then◌else◌, List, [], ◌∷◌, ◌++◌}
use Rattle.span_set.specs.declared.set.Span.{Span}
use Rattle.gap_map.specs.declared.stretch.Stretch.{Stretch}

abbrev pub stretch : ℕ → ℕ → Bool → Stretch
stretch f t k = record { from = f; to = t; known = k }

-- the tenth, or the nearest one from low to high
abbrev pub clip : ℤ → ℕ → ℕ → ℕ
clip (pos n) low high = min (max n low) high
clip (negsuc n) low high = min low high

-- the tenths from f up to t as a known stretch, where there are some
abbrev pub known_part : ℕ → ℕ → List Stretch
known_part f t = if nat_lt f t then stretch f t true ∷ [] else []

-- the tenths from a up to b, cut by the ranges
abbrev pub cut_of : ℕ → ℕ → List Span → List Stretch
cut_of a b [] = known_part a b
cut_of a b (s ∷ ss) = if nat_lt (clip s.from a b) (clip s.to a b) then known_part a (clip s.from a b) ++ (stretch (clip s.from a b) (clip s.to a b) false ∷ cut_of (clip s.to a b) b ss) else cut_of a b ss
