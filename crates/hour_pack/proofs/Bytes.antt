-- Bytes, and what is taken from the front of them.
use Rattle.std.proofs.Common.{◌≡◌, ◌<◌, ℕ, zero, suc, Bool, true, false, List, [], ◌∷◌, ◌++◌, length, drop, get_or, Result, Ok, Err, refl, sym, ap, ◌∙◌, arith, append_assoc, inl, inr, if◌then◌else◌}
use Rattle.std.specs.Prelude.{◌⊎◌}
use Rattle.hour_pack.specs.declared.pack_error.PackError.{PackError}
use Rattle.hour_pack.specs.Grammar.{AreBytes}
use Rattle.hour_pack.specs.Reading.{◌>>=◌}

-- the way that a test went
pub chosen : {A : Type 0} (b : Bool) (x y z : A) → (if b then x else y) ≡ z → ((b ≡ true) × (x ≡ z)) ⊎ ((b ≡ false) × (y ≡ z))
chosen true x y z e = inl (refl, e)
chosen false x y z e = inr (refl, e)

-- the value of a step that did not fail
pub bind_ok : {A B : Type 0} (r : Result A PackError) (f : A → Result B PackError) (y : B) → (r >>= f) ≡ Ok y → (x : A) × (r ≡ Ok x) × (f x ≡ Ok y)
bind_ok (Ok x) f y e = (x, refl, e)
bind_ok (Err d) f y e = absurd cc

-- a step that did not fail goes on with its value
pub bind_is : {A B : Type 0} (r : Result A PackError) (x : A) (f : A → Result B PackError) → r ≡ Ok x → (r >>= f) ≡ f x
bind_is r x f e = rw e refl

-- a step that failed ends all
pub bind_fails : {A B : Type 0} (r : Result A PackError) (f : A → Result B PackError) (d : PackError) → r ≡ Err d → (r >>= f) ≡ Err d
bind_fails r f d e = rw e refl

-- the step that failed
pub bind_err : {A B : Type 0} (r : Result A PackError) (f : A → Result B PackError) (d : PackError) → (r >>= f) ≡ Err d → (r ≡ Err d) ⊎ ((x : A) × (r ≡ Ok x) × (f x ≡ Err d))
bind_err (Ok x) f d e = inr (x, refl, e)
bind_err (Err c) f d e = let same : c ≡ d = cc in rw same (inl refl)

abbrev done : {A : Type 0} → A → Result A PackError
done x = Ok x

pub ok_is : {A : Type 0} (x y : A) → done x ≡ done y → x ≡ y
ok_is x y e = cc

-- a step that failed
abbrev pub fault : (A : Type 0) → PackError → Result A PackError
fault A e = Err e

pub bytes-drop : (n : ℕ) (bytes : List ℕ) → AreBytes bytes → AreBytes (drop n bytes)
bytes-drop zero bytes h = h
bytes-drop (suc n) [] h = tt
bytes-drop (suc n) (b ∷ bs) h = bytes-drop n bs h.1

pub bytes-at : (bytes : List ℕ) → AreBytes bytes → (i : ℕ) → get_or bytes i 0 < 256
bytes-at [] h i = omega arith
bytes-at (b ∷ bs) h zero = h.0
bytes-at (b ∷ bs) h (suc i) = bytes-at bs h.1 i

pub bytes-of : (bytes : List ℕ) → ((i : ℕ) → get_or bytes i 0 < 256) → AreBytes bytes
bytes-of [] h = tt
bytes-of (b ∷ bs) h = (h 0, bytes-of bs (λ i. h (suc i)))

-- what was taken from the front
pub record Takes (bytes text rest : List ℕ) : Type 0 where
  pub parts : bytes ≡ text ++ rest
  pub rest_fits : AreBytes rest

pub takes-then : (a x b y c : List ℕ) → Takes a x b → Takes b y c → Takes a (x ++ y) c
takes-then a x b y c p q = record { parts = p.parts ∙ ap (λ (t : List ℕ). x ++ t) q.parts ∙ sym (append_assoc x y c); rest_fits = q.rest_fits }

-- two texts of one length, each with something behind it
pub split-same : (a b x y : List ℕ) → length a ≡ length b → a ++ x ≡ b ++ y → (a ≡ b) × (x ≡ y)
split-same [] [] x y l e = (refl, e)
split-same [] (c ∷ b) x y l e = absurd (omega arith)
split-same (c ∷ a) [] x y l e = absurd (omega arith)
split-same (c ∷ a) (d ∷ b) x y l e =
    let heads : c ≡ d = cc in
    let tails : a ++ x ≡ b ++ y = cc in
    let rest = split-same a b x y (omega arith) tails in
    (rw heads (ap (λ (xs : List ℕ). d ∷ xs) rest.0), rest.1)
