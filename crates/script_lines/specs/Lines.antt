-- The lines of a script.
use Rattle.std.specs.Prelude.{◌==◌, ◌&&◌, ℕ, Bool, false, List, [], ◌∷◌, drop, if◌then◌else◌, slice_index}

-- a byte before the first of these lines
abbrev pub onto : ℕ → List (List ℕ) → List (List ℕ)
onto b [] = (b ∷ []) ∷ []
onto b (l ∷ ls) = (b ∷ l) ∷ ls

-- the lines of a script: each ends at a line feed (10), of which a carriage return (13) just before it is a part, or at the end of the script
unfoldable pub lines_of : List ℕ → List (List ℕ)
lines_of [] = []
lines_of (b ∷ bs) = if b == 10 then [] ∷ lines_of bs else if (b == 13) && (slice_index bs 0 == 10) then lines_of bs else onto b (lines_of bs)

-- ---- for contracts alone

-- a line feed comes first
abbrev pub begins_with_feed : List ℕ → Bool
begins_with_feed [] = false
begins_with_feed (b ∷ bs) = b == 10

-- how many bytes the end of a line takes here: a line feed, or a carriage return before one; 0 where there is no end
abbrev pub end_length : List ℕ → ℕ
end_length [] = 0
end_length (b ∷ bs) = if b == 10 then 1 else (if (b == 13) && begins_with_feed bs then 2 else 0)

-- the bytes up to the first end of a line, and those after it
unfoldable pub first_line : List ℕ → List ℕ
first_line [] = []
first_line (b ∷ bs) = if end_length (b ∷ bs) == 0 then b ∷ first_line bs else []

unfoldable pub after_line : List ℕ → List ℕ
after_line [] = []
after_line (b ∷ bs) = if end_length (b ∷ bs) == 0 then after_line bs else drop (end_length (b ∷ bs)) (b ∷ bs)
