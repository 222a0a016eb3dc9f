-- Places in lists of rows, and what is known up to a tenth.
use Rattle.std.specs.Prelude.{ℕ, zero, suc, nat_le, Bool, if◌then◌else◌, List, [], ◌∷◌, Option, Some, None, option_map, filter, option_and_then}
use Rattle.sig_base.specs.declared.values.Row.{Row}
use Rattle.std.specs.Option.{option_or}

infixl 10 ◌>>=◌
-- what follows from a value, where there is one
abbrev pub ◌>>=◌ : {A B : Type 0} → Option A → (A → Option B) → Option B
◌>>=◌ o f = option_and_then f o

-- the last element that passes, with those after it
abbrev pub last_with : {X : Type 0} → (X → Bool) → List X → Option (X × List X)
last_with p [] = None
last_with p (x ∷ xs) = option_or (last_with p xs) (if p x then Some (x, xs) else None)

-- the last element that passes
abbrev pub last : {X : Type 0} → (X → Bool) → List X → Option X
last p xs = option_map (λ f. f.0) (last_with p xs)

-- the rows at known tenths
abbrev pub known_rows : (ℕ → Bool) → List Row → List Row
known_rows known rows = filter (λ x. known x.at) rows

-- the first tenth from which on each tenth before t is known
abbrev pub since : (ℕ → Bool) → ℕ → ℕ
since known zero = 0
since known (suc t) = if known t then since known t else suc t

-- each tenth from a up to t is known, so that nothing can have happened since a that isn't a row
unfoldable pub live : (ℕ → Bool) → ℕ → ℕ → Bool
live known a t = nat_le (since known t) a

-- For proofs alone: what the last find of the rest of a list leaves to the element before it.
abbrev pub kept_last : {X : Type 0} → Option (X × List X) → Bool → X → List X → Option (X × List X)
kept_last found b x xs = option_or found (if b then Some (x, xs) else None)
