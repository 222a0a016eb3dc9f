-- Rows that say nothing of a phase are passed over.
use Rattle.std.specs.Prelude.{◌≡◌, ℕ, ◌<◌, Bool, true, false, if◌then◌else◌}
use Rattle.std.proofs.Common.{refl, arith}
use Rattle.std.proofs.lemmas.Bool.{leb-false, ne_eqb}
use Rattle.sig_base.specs.declared.values.Row.{Row}
use Rattle.hour_sweep.specs.Numbers.{PassesOver}
use Rattle.service_cut.specs.declared.signs.Sign.{Sign}
use Rattle.service_cut.specs.declared.signs.Sign.TheVariants.{Other}
use Rattle.service_cut.specs.Signs.{code_sign, is_told_by, sign}
use Rattle.service_cut.specs.Steps.{part_after, told_by}

says_nothing : (c : ℕ) → 10 < c → code_sign c ≡ Other
says_nothing c lt = rw (ne_eqb c 1 (λ e. omega (arith, e)), ne_eqb c 7 (λ e. omega (arith, e)), ne_eqb c 8 (λ e. omega (arith, e)), ne_eqb c 9 (λ e. omega (arith, e)), ne_eqb c 10 (λ e. omega (arith, e)), ne_eqb c 4 (λ e. omega (arith, e)), ne_eqb c 5 (λ e. omega (arith, e)), ne_eqb c 6 (λ e. omega (arith, e))) refl

either_other : (b : Bool) (s : Sign) → s ≡ Other → (if b then s else Other) ≡ Other
either_other true s e = e
either_other false s e = refl

other_sign : (p : ℕ) (x : Row) → 10 < x.code → sign p x ≡ Other
unfolding sign
other_sign p x lt = either_other _ (code_sign x.code) (says_nothing x.code lt)

pub others_pass : PassesOver is_told_by part_after told_by
others_pass x a e = let s = other_sign a.phase x (leb-false x.code 10 e) in (rw s refl, rw s refl)
