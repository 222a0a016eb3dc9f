-- One pass over an hour's known rows and its gaps.
use Rattle.std.specs.Prelude.{ℕ, ◌≡◌, ◌<◌, ◌≤◌, nat_lt, Bool, true, false, All, List, [], ◌∷◌, ◌++◌, length, drop, take_while}
use Rattle.sig_base.specs.declared.values.Row.{Row}
use Rattle.gap_map.specs.declared.stretch.Stretch.{Stretch}

-- the rows before tenth t at the front, and the rest
abbrev pub front : ℕ → List Row → List Row
front t xs = take_while (λ x. nat_lt x.at t) xs

abbrev pub back : ℕ → List Row → List Row
back t xs = drop (length (front t xs)) xs

-- row by row
abbrev pub swept_rows : {S : Type 0} → (S → Row → S) → List Row → S → S
swept_rows after [] s = s
swept_rows after (x ∷ xs) s = swept_rows after xs (after s x)

abbrev pub swept_stretch : {S : Type 0} → (S → Row → S) → (S → S) → Bool → List Row → S → S
swept_stretch after cleared true xs s = swept_rows after xs s
swept_stretch after cleared false xs s = cleared s

-- stretch by stretch
abbrev pub swept : {S : Type 0} → (S → Row → S) → (S → S) → List Stretch → List Row → S → S
swept after cleared [] xs s = s
swept after cleared (t ∷ ts) xs s = swept after cleared ts (back t.to xs) (swept_stretch after cleared t.known (front t.to xs) s)

-- two watches that are told the same
abbrev pub both_after : {S T : Type 0} → (S → Row → S) → (T → Row → T) → S × T → Row → S × T
both_after f g p x = (f p.0 x, g p.1 x)

abbrev pub both_cleared : {S T : Type 0} → (S → S) → (T → T) → S × T → S × T
both_cleared f g p = (f p.0, g p.1)

-- what a measure keeps: Keeps t before left s says what s is at tenth t, with these known rows before it and those left
pub record AreLaws {S : Type 0} (known : ℕ → Bool) (after : S → Row → S) (cleared : S → S) (Keeps : ℕ → List Row → List Row → S → Type 0) : Type 0 where
  pub on : (a b : ℕ) (before left : List Row) (s : S) → a ≤ b → ((t : ℕ) → a ≤ t → t < b → known t ≡ true) → Keeps a before left s → Keeps b before left s
  pub row : (before : List Row) (x : Row) (left : List Row) (s : S) → All (λ z. z.at ≤ x.at) before → Keeps x.at before (x ∷ left) s → Keeps x.at (before ++ x ∷ []) left (after s x)
  pub gap : (a b : ℕ) (before left : List Row) (s : S) → a < b → ((t : ℕ) → a ≤ t → t < b → known t ≡ false) → All (λ z. z.at < a) before → Keeps a before left s → Keeps b before left (cleared s)
