-- A printed line.
use Rattle.std.specs.Prelude.{◌++◌, ℕ, List, [], ◌∷◌, codes, decimal}
use Prim.Native.String.{String}

-- a printed line of these parts
abbrev pub line_of : List (List ℕ) → List ℕ
line_of [] = 10 ∷ []
line_of (p ∷ ps) = p ++ line_of ps

-- words, and a number after them
abbrev pub num : String → ℕ → List ℕ
num words n = codes words ++ decimal n
