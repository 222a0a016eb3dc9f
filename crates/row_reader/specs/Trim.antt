-- A text without the spaces at its ends. A space is the byte 32 alone.
use Rattle.std.specs.Prelude.{◌==◌, ℕ, List, [], ◌∷◌, if◌then◌else◌}

-- a text without the spaces at its start
abbrev pub trim_front : List ℕ → List ℕ
trim_front [] = []
trim_front (b ∷ bs) = if b == 32 then trim_front bs else b ∷ bs

-- a byte before a text that has no spaces at its end; alone it stays only where it isn't a space
abbrev pub before_end : ℕ → List ℕ → List ℕ
before_end b [] = if b == 32 then [] else b ∷ []
before_end b (x ∷ xs) = b ∷ x ∷ xs

-- a text without the spaces at its end
abbrev pub trim_end : List ℕ → List ℕ
trim_end [] = []
trim_end (b ∷ bs) = before_end b (trim_end bs)

-- a text without the spaces at both ends
abbrev pub trimmed : List ℕ → List ℕ
trimmed text = trim_end (trim_front text)
