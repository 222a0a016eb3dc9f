-- A text in parts with a mark between them.
use Rattle.std.proofs.Common.{◌≡◌, ℕ, List, [], ◌∷◌, ◌++◌, append_assoc}

pub one_mark : (mark : ℕ) (a b : List ℕ) → a ++ (mark ∷ []) ++ b ≡ a ++ mark ∷ b
one_mark mark a b = append_assoc a (mark ∷ []) b

pub two_marks : (mark : ℕ) (a b c : List ℕ) → a ++ (mark ∷ []) ++ b ++ (mark ∷ []) ++ c ≡ a ++ mark ∷ (b ++ mark ∷ c)
two_marks mark a b c = simp append_assoc
