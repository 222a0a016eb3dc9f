-- A text in two parts.
use Rattle.std.proofs.Common.{◌≡◌, ℕ, Bool, true, false, ◌&&◌, List, [], ◌∷◌, ◌++◌, length, take, drop, refl}
use Rattle.std.specs.Prelude.{nat_eq}
use Rattle.std.specs.Str.{bytes_eq}

and_assoc : (a b c : Bool) → (a && (b && c)) ≡ ((a && b) && c)
and_assoc true b c = refl
and_assoc false b c = refl

pub bytes_eq-append : (front text back : List ℕ) → bytes_eq text (front ++ back) ≡ (bytes_eq (take (length front) text) front && bytes_eq (drop (length front) text) back)
bytes_eq-append [] text back = refl
bytes_eq-append (f ∷ fs) [] back = refl
bytes_eq-append (f ∷ fs) (t ∷ ts) back = rw (bytes_eq-append fs ts back) (and_assoc (nat_eq t f) (bytes_eq (take (length fs) ts) fs) (bytes_eq (drop (length fs) ts) back))
