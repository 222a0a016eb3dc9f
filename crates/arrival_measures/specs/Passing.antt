-- Rows that aren't those of a detector are passed over.
use Rattle.std.specs.Prelude.{◌≡◌, ℕ, ◌==◌, true, false}
use Rattle.std.proofs.Common.{refl, subst}
use Rattle.std.proofs.lemmas.Bool.{ne_eqb}
use Rattle.hour_sweep.specs.Numbers.{PassesOver}
use Rattle.arrival_measures.specs.Faults.{is_own}
use Rattle.arrival_measures.specs.Steps.{detected_by, flag_after}

not_on : (c : ℕ) → is_own c ≡ false → (c == 82) ≡ false
not_on c e = ne_eqb c 82 (λ (q : c ≡ 82). let w : true ≡ false = subst (λ (z : ℕ). is_own z ≡ false) q e in absurd cc)

pub others_pass : PassesOver is_own flag_after detected_by
others_pass x a e = (rw e refl, rw (not_on x.code e) refl)
