-- Sets of phases as the code gathers them.
use Rattle.std.specs.Prelude.{◌≡◌, ℕ, ◌≤◌, List, [], ◌∷◌, ◌++◌, Option, Some, None}
use Rattle.ring_config.specs.Values.{mask_of}

abbrev pub ArePositive : List ℕ → Type 0
ArePositive [] = Unit {0}
ArePositive (n ∷ ns) = (1 ≤ n) × ArePositive ns

-- the mask is the set of these phases
pub record IsMaskOf (found : List ℕ) (mask : ℕ) : Type 0 where
  pub value : mask ≡ mask_of found
  pub positive : ArePositive found

-- the mask has the next phase too, and there is none where there is no next phase
abbrev pub Adds : List ℕ → Option ℕ → Option ℕ → Type 0
Adds found None None = Unit {0}
Adds found None (Some mask) = ⊥
Adds found (Some n) None = ⊥
Adds found (Some n) (Some mask) = IsMaskOf (found ++ n ∷ []) mask
