-- What holds of each item of a list.
use Rattle.std.proofs.Common.{◌≡◌, Bool, true, false, if◌then◌else◌, List, [], ◌∷◌, ◌++◌, refl}

abbrev pub Each : {X : Type 0} → (X → Type 0) → List X → Type 0
Each P [] = Unit {0}
Each P (x ∷ xs) = P x × Each P xs

pub each_join : {X : Type 0} (P : X → Type 0) (xs ys : List X) → Each P xs → Each P ys → Each P (xs ++ ys)
each_join P [] ys p q = q
each_join P (x ∷ xs) ys p q = (p.0, each_join P xs ys p.1 q)

pub each_if : {X : Type 0} (P : X → Type 0) (b : Bool) (x : X) → P x → Each P (if b then x ∷ [] else [])
each_if P true x p = (p, tt)
each_if P false x p = tt

pub each_where : {X : Type 0} (P : X → Type 0) (b : Bool) (xs : List X) → (b ≡ true → Each P xs) → Each P (if b then xs else [])
each_where P true xs p = p refl
each_where P false xs p = tt
