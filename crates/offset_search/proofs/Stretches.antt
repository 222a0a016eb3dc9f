-- What a vehicle meets from one shift on, up to the next edge of its colour or of its cycle.
use Rattle.std.proofs.Common.{◌≡◌, ℕ, ◌+◌, ◌-◌, ◌*◌, ◌/◌, ◌%◌, ◌<◌, ◌≤◌, true, false, ap, ◌∙◌, arith}
use Rattle.std.proofs.Math.Nat.{mod-add-div'}
use Rattle.std.proofs.lemmas.Nat.{mod-mul-add}
use Rattle.std.proofs.lemmas.Bool.Decides.{nat_tests}
use Rattle.offset_search.specs.declared.arrival.Arrival.{Arrival}
use Rattle.offset_search.specs.Shifted.{tenth_after, meets_green}

mod_within : (n l d : ℕ) → n % l + d < l → (n + d) % l ≡ n % l + d
mod_within n l d lt =
    let whole : n % l + n / l * l ≡ n = mod-add-div' n l in
    let split : n + d ≡ n / l * l + (n % l + d) = omega (arith, whole) in
    ap (λ k. k % l) split ∙ mod-mul-add (n / l) l (n % l + d) lt

-- within a cycle, the tenth goes up by ten with each second of the shift
tenth_later : (a : Arrival) (s j : ℕ) → s ≤ j → tenth_after a s + 10 * (j - s) < a.length → tenth_after a j ≡ tenth_after a s + 10 * (j - s)
tenth_later a s j le lt =
    let split : a.offset + 10 * j ≡ (a.offset + 10 * s) + 10 * (j - s) = omega arith in
    ap (λ k. k % a.length) split ∙ mod_within (a.offset + 10 * s) a.length (10 * (j - s)) lt

pub before_green : (a : Arrival) (s j : ℕ) → a.green ≤ a.length → s ≤ j → tenth_after a s + 10 * (j - s) < a.green → meets_green a j ≡ false
unfolding meets_green
before_green a s j in' le lt = let e = tenth_later a s j le (omega arith) in rw e (grind (arith, nat_tests))

pub on_green : (a : Arrival) (s j : ℕ) → a.yellow ≤ a.length → s ≤ j → a.green ≤ tenth_after a s → tenth_after a s + 10 * (j - s) < a.yellow → meets_green a j ≡ true
unfolding meets_green
on_green a s j in' le from lt = let e = tenth_later a s j le (omega arith) in rw e (grind (arith, nat_tests))

pub after_green : (a : Arrival) (s j : ℕ) → s ≤ j → a.yellow ≤ tenth_after a s → tenth_after a s + 10 * (j - s) < a.length → meets_green a j ≡ false
unfolding meets_green
after_green a s j le past lt = let e = tenth_later a s j le lt in rw e (grind (arith, nat_tests))
