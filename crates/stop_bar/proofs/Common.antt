-- Lemmas that several crates use.
use Rattle.std.proofs.Common.{◌≡◌, refl, ap, suc, List, [], ◌∷◌, length}
use Rattle.stop_bar.specs.Lists.{Each}

pub each_long : {A B : Type 0} (R : A → B → Type 0) (xs : List A) (ys : List B) → Each R xs ys → length ys ≡ length xs
each_long R [] [] h = refl
each_long R [] (y ∷ ys) h = absurd h
each_long R (x ∷ xs) [] h = absurd h
each_long R (x ∷ xs) (y ∷ ys) h = ap suc (each_long R xs ys h.1)
