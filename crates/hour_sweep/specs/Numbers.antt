-- Measures that keep a part for each of some numbers, and list what rows give.
use Rattle.std.specs.Prelude.{ℕ, ◌≡◌, ◌≢◌, ◌<◌, ◌≤◌, Bool, false, if◌then◌else◌, All, List, [], ◌∷◌, ◌++◌, Option, Some, None, map, option_map, option_to_list, slice_index_or, slice_set}
use Rattle.std.specs.List.{cons_option, range_with_len}
use Rattle.sig_base.specs.declared.values.Row.{Row}
use Rattle.hour_sweep.specs.Rows.{known_rows, since}

-- a table of parts, with the part of a number at that place, and what was given so far
pub record Tracking (A O : Type 0) : Type 0 where
  pub parts : List (Option A)
  pub outs : List O

abbrev pub tracking_row : {A O : Type 0} → (Row → A → A) → (Row → A → Option O) → Tracking A O → Row → Option A → Tracking A O
tracking_row step out_by s x None = s
tracking_row step out_by s x (Some a) = record { parts = slice_set s.parts x.param (Some (step x a)); outs = s.outs ++ option_to_list (out_by x a) }

-- rows of a code that isn't wanted change no part and give nothing
abbrev pub PassesOver : {A O : Type 0} → (ℕ → Bool) → (Row → A → A) → (Row → A → Option O) → Type 0
PassesOver {A = A} wants step out_by = (x : Row) (a : A) → wants x.code ≡ false → (step x a ≡ a) × (out_by x a ≡ None)

-- a row reaches the part of its parameter
abbrev pub tracking_after : {A O : Type 0} → (Row → A → A) → (Row → A → Option O) → Tracking A O → Row → Tracking A O
tracking_after step out_by s x = tracking_row step out_by s x (slice_index_or s.parts x.param None)

-- a gap reaches all of them
abbrev pub tracking_cleared : {A O : Type 0} → (A → A) → Tracking A O → Tracking A O
tracking_cleared clear s = record { parts = map (option_map clear) s.parts; outs = s.outs }

-- what belongs to number p, where that is one of those that there are
abbrev pub numbered : {A : Type 0} → (ℕ → Bool) → (ℕ → A) → ℕ → Option A
numbered has of p = if has p then Some (of p) else None

-- what belongs to each of the numbers below n that there are, each at its own place
abbrev pub table : {A : Type 0} → (ℕ → Bool) → ℕ → (ℕ → A) → List (Option A)
table has n of = map (numbered has of) (range_with_len 0 n)

-- what the rows give in a measure, in their order: each for the number that is its parameter, where that is one of those that there are, by the rows before it and those after it
abbrev pub outs_from : {O : Type 0} → (ℕ → List Row → Row → List Row → Option O) → (ℕ → Bool) → List Row → List Row → List O
outs_from out_at has before [] = []
outs_from out_at has before (r ∷ rs) = cons_option (if has r.param then out_at r.param before r rs else None) (outs_from out_at has (before ++ r ∷ []) rs)

-- For proofs alone: what one row gives.
abbrev pub given : {O : Type 0} → (ℕ → List Row → Row → List Row → Option O) → (ℕ → Bool) → List Row → Row → List Row → Option O
given out_at has before r rest = if has r.param then out_at r.param before r rest else None

-- what a measure owes for one number p, whose part at tenth t is of t before p, with these known rows before it:
-- a row of the number takes one step, and a row of another one none; a further known tenth changes nothing, and an
-- unknown one clears the part; what a row gives is told by the part before it, whatever rows are after it
pub record AreTracks {A O : Type 0} (known : ℕ → Bool) (of : ℕ → List Row → ℕ → A) (step : Row → A → A) (clear : A → A) (out_at : ℕ → List Row → Row → List Row → Option O) (out_by : Row → A → Option O) : Type 0 where
  pub push : (before : List Row) (x : Row) → All (λ z. z.at ≤ x.at) before → of x.at (before ++ x ∷ []) x.param ≡ step x (of x.at before x.param)
  pub other : (p : ℕ) (before : List Row) (x : Row) → All (λ z. z.at ≤ x.at) before → x.param ≢ p → of x.at (before ++ x ∷ []) p ≡ of x.at before p
  pub on : (t u p : ℕ) (before : List Row) → since known t ≡ since known u → of t before p ≡ of u before p
  pub lost : (k t u p : ℕ) (before : List Row) → All (λ z. z.at ≤ k) before → k < u → known k ≡ false → of u before p ≡ clear (of t before p)
  pub now : (before : List Row) (x : Row) (rest : List Row) → All (λ z. z.at ≤ x.at) before → out_at x.param before x rest ≡ out_by x (of x.at before x.param)

-- what an hour's part gives
pub record IsTracked {A O : Type 0} (known : ℕ → Bool) (of : ℕ → List Row → ℕ → A) (out_at : ℕ → List Row → Row → List Row → Option O) (has : ℕ → Bool) (n : ℕ) (before rows : List Row) (to : ℕ) (outs : List O) (parts : List (Option A)) : Type 0 where
  pub outs_are : outs ≡ outs_from out_at has before (known_rows known rows)
  pub parts_are : parts ≡ table has n (of to (before ++ known_rows known rows))
