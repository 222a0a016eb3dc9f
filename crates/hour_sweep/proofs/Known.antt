-- What is known up to a tenth.
use Rattle.std.proofs.Common.{◌≡◌, ℕ, zero, suc, ◌<◌, ◌≤◌, Bool, true, false, cond, refl, ap, sym, arith, leb, inl, inr}
use Rattle.std.proofs.lemmas.Bool.{cases_eq, cases_Bool, le-leb, lt-leb}
use Rattle.hour_sweep.specs.Rows.{since, live}

pub since_le : (known : ℕ → Bool) (t : ℕ) → since known t ≤ t
since_le known zero = omega arith
since_le known (suc t) = elim (known t) as (λ b. cond b (since known t) (suc t) ≤ suc t) [ true ↦ omega (arith, since_le known t) | false ↦ omega arith ]

pub since_known : (known : ℕ → Bool) (a t : ℕ) → a ≤ t → ((k : ℕ) → a ≤ k → k < t → known k ≡ true) → since known t ≡ since known a
since_known known a zero le h = let e : a ≡ zero = omega arith in rw e refl
since_known known a (suc t) le h =
    elim (cases_eq a (suc t)) [ inl e ↦ ap (λ n. since known n) (sym e) | inr ne ↦ rw (h t (omega arith) (omega arith)) (since_known known a t (omega arith) (λ k x y. h k x (omega arith))) ]

pub since_unknown : (known : ℕ → Bool) (k t : ℕ) → k < t → known k ≡ false → k < since known t
since_unknown known k zero lt u = absurd (omega arith)
since_unknown known k (suc t) lt u =
    elim (cases_Bool (known t)) [ inl e ↦ rw e (elim (cases_eq k t) [ inl same ↦ absurd (let f : known t ≡ false = rw (← same) u in cc) | inr ne ↦ since_unknown known k t (omega arith) u ]) | inr e ↦ rw e (omega arith) ]

pub live_here : (known : ℕ → Bool) (a t : ℕ) → t ≤ a → live known a t ≡ true
unfolding live
live_here known a t le = le-leb _ _ (omega (arith, since_le known t))

pub live_same : (known : ℕ → Bool) (a t u : ℕ) → since known t ≡ since known u → live known a t ≡ live known a u
unfolding live
live_same known a t u e = ap (λ n. leb n a) e

pub live_lost : (known : ℕ → Bool) (a k t : ℕ) → a ≤ k → k < t → known k ≡ false → live known a t ≡ false
unfolding live
live_lost known a k t le lt u = lt-leb _ _ (omega (arith, since_unknown known k t lt u))
