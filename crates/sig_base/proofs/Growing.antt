-- Counts that never fall.
use Rattle.std.proofs.Common.{◌≡◌, ℕ, zero, suc, ◌-◌, ◌^◌, ◌≤◌, min, List, [], ◌∷◌, get_or, set, refl, ap, arith}
use Rattle.sig_base.specs.Reads.{Grow, one_more, raised}

pub grow_same : (a : List ℕ) → Grow a a
unfolding Grow
grow_same a h = omega arith

pub grow_on : (a b c : List ℕ) → Grow a b → Grow b c → Grow a c
unfolding Grow
grow_on a b c p q h = let x = p h in let y = q h in omega arith

set_more : (counts : List ℕ) (hour h x : ℕ) → (hour ≡ h → min (get_or counts h 0) (2 ^ 64 - 1) ≤ x) → min (get_or counts h 0) (2 ^ 64 - 1) ≤ get_or (set counts hour x) h 0
set_more [] hour h x p = omega arith
set_more (c ∷ cs) zero zero x p = p refl
set_more (c ∷ cs) zero (suc h) x p = omega arith
set_more (c ∷ cs) (suc i) zero x p = omega arith
set_more (c ∷ cs) (suc i) (suc h) x p = set_more cs i h x (λ e. p (ap suc e))

pub grow_raised : (counts : List ℕ) (hour : ℕ) → Grow counts (raised counts hour)
unfolding Grow
grow_raised counts hour h = set_more counts hour h (one_more (get_or counts hour 0)) (λ e. rw e (omega arith))

pub grow_raised_to : (counts new : List ℕ) (hour : ℕ) → new ≡ raised counts hour → Grow counts new
grow_raised_to counts new hour e = rw e (grow_raised counts hour)
