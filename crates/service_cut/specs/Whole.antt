-- Whole services, ends of yellow and whole cycles in their own words: rows between rows.
use Rattle.std.specs.Prelude.{ℕ, ◌≡◌, ◌≤◌, ◌-◌, Bool, true, false, List, ◌∷◌, ◌++◌, Some, All}
use Rattle.sig_base.specs.declared.values.Row.{Row}
use Rattle.hour_sweep.specs.Rows.{last}
use Rattle.service_cut.specs.declared.items.Service.{Service}
use Rattle.service_cut.specs.declared.items.Cycle.{Cycle}
use Rattle.service_cut.specs.Signs.{sign, is_begin, is_change, is_yellow, is_end}
use Rattle.service_cut.specs.Services.{cause_in, termination}
use Rattle.service_cut.specs.Cycles.{offset_of}

-- x is the first element that passes, between front and back
pub record IsFirst (p : Row → Bool) (xs : List Row) (x : Row) (front back : List Row) : Type 0 where
  pub joined : xs ≡ front ++ x ∷ back
  pub passes : p x ≡ true
  pub none : All (λ z. p z ≡ false) front

-- x is the last element that passes, between front and back
pub record IsLast (p : Row → Bool) (xs : List Row) (x : Row) (front back : List Row) : Type 0 where
  pub joined : xs ≡ front ++ x ∷ back
  pub passes : p x ≡ true
  pub none : All (λ z. p z ≡ false) back

-- each tenth from a to b is known
abbrev pub AllKnown : (ℕ → Bool) → ℕ → ℕ → Type 0
AllKnown known a b = (t : ℕ) → a ≤ t → t ≤ b → known t ≡ true

-- a whole service of phase p, with r after the rows before and before the rows later
pub record IsService (known : ℕ → Bool) (p : ℕ) (before : List Row) (r : Row) (later : List Row) (s : Service) : Type 0 where
  pub b : Row
  pub g : Row
  pub y : Row
  pub to_b : List Row
  pub from_b : List Row
  pub to_g : List Row
  pub from_g : List Row
  pub to_y : List Row
  pub from_y : List Row
  pub b_is : IsLast (λ z. is_begin (sign p z)) before b to_b from_b
  pub g_is : IsFirst (λ z. is_change (sign p z)) from_b g to_g from_g
  pub y_is : IsFirst (λ z. is_yellow (sign p z)) from_b y to_y from_y
  pub r_is : is_end (sign p r) ≡ true
  pub r_first : All (λ z. is_end (sign p z) ≡ false) from_y
  pub all_known : AllKnown known b.at r.at
  pub s_is : s ≡ record { phase = p; b = b.at; g = g.at; y = y.at; r = r.at; end = termination (cause_in p (Some g) (from_b ++ r ∷ later)) }

-- row r is a yellow end of phase p, after the rows before
pub record IsYellowEnd (known : ℕ → Bool) (p : ℕ) (before : List Row) (r : Row) : Type 0 where
  pub y : Row
  pub to_y : List Row
  pub from_y : List Row
  pub joined : before ≡ to_y ++ y ∷ from_y
  pub y_is : is_yellow (sign p y) ≡ true
  pub none : All (λ z. is_end (sign p z) ≡ false) from_y
  pub r_is : is_end (sign p r) ≡ true
  pub all_known : AllKnown known y.at r.at

-- a whole cycle of phase p, with its last row r after the rows before
pub record IsCycle (known : ℕ → Bool) (p : ℕ) (before : List Row) (r : Row) (c : Cycle) : Type 0 where
  pub from : Row
  pub to_from : List Row
  pub between : List Row
  pub joined : before ≡ to_from ++ from ∷ between
  pub first : IsYellowEnd known p to_from from
  pub second : IsYellowEnd known p before r
  pub none : (xs : List Row) (x : Row) (ys : List Row) → between ≡ xs ++ x ∷ ys → IsYellowEnd known p (to_from ++ from ∷ xs) x → ⊥
  pub all_known : AllKnown known from.at r.at
  pub c_is : c ≡ record { phase = p; from = from.at; to = r.at; green = offset_of from.at (last (λ z. is_begin (sign p z)) between); yellow = offset_of from.at (last (λ z. is_yellow (sign p z)) between) }

-- a cycle doesn't end before it begins, and its last begins of green and of yellow lie in it
pub record CycleFits (c : Cycle) : Type 0 where
  pub in_order : c.from ≤ c.to
  pub green_in : c.green ≤ c.to - c.from
  pub yellow_in : c.yellow ≤ c.to - c.from
