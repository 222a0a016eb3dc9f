-- Conflict of two phases doesn't depend on their order.
use Rattle.std.proofs.Common.{◌≡◌, ℕ, Bool, true, false, ◌&&◌, ◌||◌, ◌==◌, not, List, [], ◌∷◌, Option, Some, None, refl, ap₂, sym}
use Rattle.std.proofs.lemmas.Bool.Decides.{same_from_decides, Decides-eqb}
use Rattle.sig_base.specs.declared.values.PhaseItem.{PhaseItem}
use Rattle.ring_config.specs.declared.items.Pair.{Pair}
use Rattle.ring_config.specs.Values.{has_pair}
use Rattle.ring_config.specs.Settings.{Settings, phase_of, clash, conflict_by, in_conflict}

or_comm : (x y : Bool) → (x || y) ≡ (y || x)
or_comm true true = refl
or_comm true false = refl
or_comm false true = refl
or_comm false false = refl

eq_comm : (m n : ℕ) → (m == n) ≡ (n == m)
eq_comm m n = same_from_decides (m == n) (n == m) (Decides-eqb m n) (λ t. sym ((Decides-eqb n m).0 t), λ e. (Decides-eqb n m).1 (sym e))

pair_comm : (pairs : List Pair) (a b : ℕ) → has_pair pairs a b ≡ has_pair pairs b a
pair_comm [] a b = refl
pair_comm (p ∷ ps) a b = ap₂ (λ (x y : Bool). x || y) (or_comm (p.a == a && p.b == b) (p.a == b && p.b == a)) (pair_comm ps a b)

clash_comm : (p q : Option PhaseItem) → clash p q ≡ clash q p
clash_comm None None = refl
clash_comm None (Some q) = refl
clash_comm (Some p) None = refl
clash_comm (Some p) (Some q) = ap₂ (λ (x y : Bool). x || not y) (eq_comm p.ring q.ring) (eq_comm p.side q.side)

pub conflict_comm : (conflicts allows : List Pair) (phases : List PhaseItem) (a b : ℕ) → conflict_by conflicts allows phases a b ≡ conflict_by conflicts allows phases b a
conflict_comm conflicts allows phases a b = rw (pair_comm conflicts a b, pair_comm allows a b, clash_comm (phase_of phases a) (phase_of phases b)) refl

pub conflict_is : (c : Settings) (a b : ℕ) → conflict_by c.conflicts c.allows c.phases a b ≡ in_conflict c a b
unfolding in_conflict
conflict_is c a b = refl
