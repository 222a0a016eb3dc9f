-- The begins of green and of yellow lie in their cycle.
use Rattle.std.proofs.Common.{◌≡◌, ℕ, ◌-◌, ◌≤◌, Bool, true, false, cond, List, [], ◌∷◌, ◌++◌, Option, Some, None, refl, subst, sym, append_assoc, arith, inl, inr}
use Rattle.std.specs.Prelude.{All, option_map}
use Rattle.std.specs.List.{cons_option}
use Rattle.std.proofs.lemmas.List.Elements.{All-nil, All-cons, All-head, All-tail}
use Rattle.std.proofs.lemmas.Bool.{cases_Bool}
use Rattle.sig_base.specs.declared.values.Row.{Row}
use Rattle.hour_sweep.specs.Hours.{AreOrdered}
use Rattle.hour_sweep.specs.Numbers.{outs_from}
use Rattle.hour_sweep.specs.Rows.{last, last_with, live}
use Rattle.hour_sweep.proofs.Places.{AllLast, kept_all, last_with_all}
use Rattle.service_cut.specs.declared.items.Cycle.{Cycle}
use Rattle.service_cut.specs.declared.signs.Sign.{Sign}
use Rattle.service_cut.specs.declared.signs.Sign.TheVariants.{Begin, Change, Yellow, End, Cause, Other}
use Rattle.service_cut.specs.Signs.{sign, is_begin, is_end, is_yellow}
use Rattle.service_cut.specs.Cycles.{is_yellow_end, last_end_from, cycle_begun, cycle_begun_in, cycle_begun_of, cycle_of, cycle_at, offset_of}
use Rattle.service_cut.specs.Whole.{CycleFits}

-- what holds of a cycle, where there is one
abbrev pub IfCycle : Option Cycle → Type 0
IfCycle None = Unit {0}
IfCycle (Some c) = CycleFits c

offset_low : (from to : ℕ) (o : Option (Row × List Row)) → AllLast (λ z. z.at ≤ to) o → offset_of from (option_map (λ f. f.0) o) ≤ to - from
offset_low from to None h = omega arith
offset_low from to (Some f) h = let low : f.0.at ≤ to = h.0 in omega (arith, low)

-- a row that comes before the end is no further from the begin than it
pub offset_in : (from to : ℕ) (p : Row → Bool) (after : List Row) → All (λ z. z.at ≤ to) after → offset_of from (last p after) ≤ to - from
offset_in from to p after h = offset_low from to (last_with p after) (last_with_all (λ z. z.at ≤ to) p after h)

pub end_all : (P : Row → Type 0) (known : ℕ → Bool) (p : ℕ) (seen rows : List Row) → All P rows → AllLast P (last_end_from known p seen rows)
end_all P known p seen [] h = tt
end_all P known p seen (x ∷ xs) h =
    kept_all P (last_end_from known p (seen ++ x ∷ []) xs) (is_yellow_end known p seen x) x xs (end_all P known p (seen ++ x ∷ []) xs (All-tail P x xs h)) (All-head P x xs h) (All-tail P x xs h)

begun_fits : (p : ℕ) (from r : Row) (after : List Row) → from.at ≤ r.at → All (λ z. z.at ≤ r.at) after → IfCycle (cycle_of p (Some (cycle_begun p from after)) r)
begun_fits p from r after low h = record {
  in_order = low;
  green_in = offset_in from.at r.at (λ z. is_begin (sign p z)) after h;
  yellow_in = offset_in from.at r.at (λ z. is_yellow (sign p z)) after h;
}

found_fits : (known : ℕ → Bool) (p : ℕ) (r : Row) (o : Option (Row × List Row)) → AllLast (λ z. z.at ≤ r.at) o → IfCycle (cycle_of p (cycle_begun_in known r.at p o) r)
found_fits known p r None h = tt
found_fits known p r (Some f) h = elim (cases_Bool (live known f.0.at r.at)) as (λ _. IfCycle (cycle_of p (cycle_begun_in known r.at p (Some f)) r)) [
  | inl t ↦ rw t (begun_fits p f.0 r f.1 h.0 h.1)
  | inr n ↦ rw n tt
]

-- the cycle that a row ends, where no row before it is later
row_fits : (known : ℕ → Bool) (p : ℕ) (before : List Row) (r : Row) → All (λ z. z.at ≤ r.at) before → IfCycle (cycle_at known p before r)
unfolding cycle_at cycle_begun_of
row_fits known p before r h = elim (cases_Bool (is_yellow_end known p before r)) as (λ _. IfCycle (cycle_at known p before r)) [
  | inl t ↦ rw t (found_fits known p r (last_end_from known p [] before) (end_all (λ z. z.at ≤ r.at) known p [] before h))
  | inr n ↦ rw n tt
]

-- ---- in a log

pub row_late : (a b : ℕ) (xs : List Row) (r : Row) (ys : List Row) → AreOrdered a b (xs ++ r ∷ ys) → a ≤ r.at
row_late a b [] r ys h = h.0
row_late a b (x ∷ xs) r ys h = let l = h.0 in let m = row_late x.at b xs r ys h.2 in omega (arith, l, m)

pub earlier_low : (a b : ℕ) (xs : List Row) (r : Row) (ys : List Row) → AreOrdered a b (xs ++ r ∷ ys) → All (λ z. z.at ≤ r.at) xs
earlier_low a b [] r ys h = All-nil (λ z. z.at ≤ r.at)
earlier_low a b (x ∷ xs) r ys h = All-cons (λ z. z.at ≤ r.at) x xs (row_late x.at b xs r ys h.2) (earlier_low x.at b xs r ys h.2)

given_fits : (v : Bool) (o : Option Cycle) (rest : List Cycle) → IfCycle o → All CycleFits rest → All CycleFits (cons_option (cond v o None) rest)
given_fits false o rest h more = more
given_fits true None rest h more = more
given_fits true (Some c) rest h more = All-cons CycleFits c rest h more

pub cycles_fit : (known : ℕ → Bool) (has : ℕ → Bool) (a b : ℕ) (before rows : List Row) → AreOrdered a b (before ++ rows) → All CycleFits (outs_from (λ p earlier r rest. cycle_at known p earlier r) has before rows)
cycles_fit known has a b before [] h = All-nil CycleFits
cycles_fit known has a b before (r ∷ rs) h =
    given_fits (has r.param) (cycle_at known r.param before r) (outs_from (λ p earlier r rest. cycle_at known p earlier r) has (before ++ r ∷ []) rs)
    (row_fits known r.param before r (earlier_low a b before r rs h))
    (cycles_fit known has a b (before ++ r ∷ []) rs (subst (λ (zs : List Row). AreOrdered a b zs) (sym (append_assoc before (r ∷ []) rs)) h))

-- ---- a row says one thing

pub begin_only : (s : Sign) → is_begin s ≡ true → (is_yellow s ≡ false) × (is_end s ≡ false)
begin_only Begin e = (refl, refl)
begin_only Change e = absurd (cc)
begin_only Yellow e = absurd (cc)
begin_only End e = absurd (cc)
begin_only Cause e = absurd (cc)
begin_only Other e = absurd (cc)

pub yellow_only : (s : Sign) → is_yellow s ≡ true → (is_begin s ≡ false) × (is_end s ≡ false)
yellow_only Begin e = absurd (cc)
yellow_only Change e = absurd (cc)
yellow_only Yellow e = (refl, refl)
yellow_only End e = absurd (cc)
yellow_only Cause e = absurd (cc)
yellow_only Other e = absurd (cc)
