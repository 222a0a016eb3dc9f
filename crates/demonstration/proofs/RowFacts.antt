-- Services and pulses go on with each one that is added, and enough of them are looked at.
use Rattle.std.proofs.Common.{◌≡◌, ◌≤◌, ◌<◌, ◌+◌, ◌-◌, ◌/◌, ◌%◌, ℕ, zero, suc, true, cond, nat_lt, List, [], ◌∷◌, ◌++◌, refl, sym, ap, ◌∙◌, arith, append_assoc, append-nil}
use Rattle.sig_base.specs.declared.values.Row.{Row}
use Rattle.sig_base.proofs.Common.{is_less, not_less}
use Rattle.demonstration.specs.Draws.{drawn, next}
use Rattle.demonstration.specs.Rows.{row, services, pulses, service_rows, pulse_rows, other_phase}

-- where the sequence stands after two draws
abbrev after_two : ℕ → ℕ
after_two x = next (next x)

-- the next green and the code that ends it, by the next two draws
abbrev green : ℕ → ℕ
green x = 100 + drawn (next x) % 200

abbrev ending : ℕ → ℕ
ending x = 4 + drawn (next (next x)) % 3

-- how long the detector is off and then on, by the next two draws
abbrev quiet : ℕ → ℕ
quiet x = 20 + drawn (next x) % 100

abbrev held : ℕ → ℕ
held x = 5 + drawn (next (next x)) % 40

-- where no more tenths are left than are looked at, it doesn't matter how many are
services-enough : (k j end x at phase : ℕ) → end ≤ at + k → end ≤ at + j → services k end x at phase ≡ services j end x at phase
unfolding services
services-enough zero zero end x at phase h g = refl
services-enough zero (suc j) end x at phase h g = rw (not_less at end (omega arith)) refl
services-enough (suc k) zero end x at phase h g = rw (not_less at end (omega arith)) refl
services-enough (suc k) (suc j) end x at phase h g =
    ap (λ (l : List Row). cond (nat_lt at end) (service_rows at phase (green x) (ending x) ++ l) [])
    (services-enough k j end (after_two x) (at + green x + 50) (other_phase phase) (omega arith) (omega arith))

pub services-next : (end x at phase : ℕ) → at < end
    → services (end - at) end x at phase
    ≡ service_rows at phase (green x) (ending x) ++ services (end - (at + green x + 50)) end (after_two x) (at + green x + 50) (other_phase phase)
unfolding services
services-next end x at phase h =
    let k : end - at ≡ suc (end - at - 1) = omega arith in
    let t : nat_lt at end ≡ true = is_less at end h in
    let rest : services (end - at - 1) end (after_two x) (at + green x + 50) (other_phase phase) ≡ services (end - (at + green x + 50)) end (after_two x) (at + green x + 50) (other_phase phase)
    = services-enough (end - at - 1) (end - (at + green x + 50)) end (after_two x) (at + green x + 50) (other_phase phase) (omega arith) (omega arith) in
    rw (k, t) (ap (λ (l : List Row). service_rows at phase (green x) (ending x) ++ l) rest)

pub services-done : (end x at phase : ℕ) → end ≤ at → services (end - at) end x at phase ≡ []
unfolding services
services-done end x at phase h = let k : end - at ≡ zero = omega arith in rw k refl

pulses-enough : (k j end x at : ℕ) → end ≤ at + k → end ≤ at + j → pulses k end x at ≡ pulses j end x at
unfolding pulses
pulses-enough zero zero end x at h g = refl
pulses-enough zero (suc j) end x at h g = rw (not_less at end (omega arith)) refl
pulses-enough (suc k) zero end x at h g = rw (not_less at end (omega arith)) refl
pulses-enough (suc k) (suc j) end x at h g =
    ap (λ (l : List Row). cond (nat_lt at end) (pulse_rows (at + quiet x) (held x) ++ l) [])
    (pulses-enough k j end (after_two x) (at + quiet x + held x) (omega arith) (omega arith))

pub pulses-next : (end x at : ℕ) → at < end
    → pulses (end - at) end x at
    ≡ pulse_rows (at + quiet x) (held x) ++ pulses (end - (at + quiet x + held x)) end (after_two x) (at + quiet x + held x)
unfolding pulses
pulses-next end x at h =
    let k : end - at ≡ suc (end - at - 1) = omega arith in
    let t : nat_lt at end ≡ true = is_less at end h in
    let rest : pulses (end - at - 1) end (after_two x) (at + quiet x + held x) ≡ pulses (end - (at + quiet x + held x)) end (after_two x) (at + quiet x + held x)
    = pulses-enough (end - at - 1) (end - (at + quiet x + held x)) end (after_two x) (at + quiet x + held x) (omega arith) (omega arith) in
    rw (k, t) (ap (λ (l : List Row). pulse_rows (at + quiet x) (held x) ++ l) rest)

pub pulses-done : (end x at : ℕ) → end ≤ at → pulses (end - at) end x at ≡ []
unfolding pulses
pulses-done end x at h = let k : end - at ≡ zero = omega arith in rw k refl

-- a part that was to come is put at the end of what is there
pub goes_on : {X : Type 0} (out new part rest whole left : List X) → out ++ left ≡ whole → left ≡ part ++ rest → new ≡ out ++ part → new ++ rest ≡ whole
goes_on out new part rest whole left h e n =
    ap (λ (l : List _). l ++ rest) n ∙ append_assoc out part rest ∙ ap (λ (l : List _). out ++ l) (sym e) ∙ h

-- nothing is to come
pub is_done : {X : Type 0} (out whole left : List X) → out ++ left ≡ whole → left ≡ [] → out ≡ whole
is_done out whole left h e = sym (append-nil out) ∙ ap (λ (l : List _). out ++ l) (sym e) ∙ h

-- one service more
pub services-go : (end x at phase first second phase' : ℕ) (out new whole : List Row) → at < end → out ++ services (end - at) end x at phase ≡ whole
    → first ≡ next x → second ≡ next first → phase' ≡ other_phase phase
    → new ≡ out ++ service_rows at phase (100 + first / 65536 % 200) (4 + second / 65536 % 3)
    → new ++ services (end - (at + (100 + first / 65536 % 200) + 50)) end second (at + (100 + first / 65536 % 200) + 50) phase' ≡ whole
services-go end x at phase first second phase' out new whole lt h ef es ep en =
    let step = rw (← ef, ← es, ← ep) at (services-next end x at phase lt) in
    goes_on out new (service_rows at phase (100 + first / 65536 % 200) (4 + second / 65536 % 3)) _ whole (services (end - at) end x at phase) h step en

-- one pulse more
pub pulses-go : (end x at first second : ℕ) (on off : Row) (out new whole : List Row) → at < end → out ++ pulses (end - at) end x at ≡ whole
    → first ≡ next x → second ≡ next first
    → on ≡ row (at + (20 + first / 65536 % 100)) 82 5 → off ≡ row (at + (20 + first / 65536 % 100) + (5 + second / 65536 % 40)) 81 5
    → new ≡ out ++ (on ∷ off ∷ [])
    → new ++ pulses (end - (at + (20 + first / 65536 % 100) + (5 + second / 65536 % 40))) end second (at + (20 + first / 65536 % 100) + (5 + second / 65536 % 40)) ≡ whole
pulses-go end x at first second on off out new whole lt h ef es e1 e2 en =
    let step = rw (← ef, ← es) at (pulses-next end x at lt) in
    goes_on out new (pulse_rows (at + (20 + first / 65536 % 100)) (5 + second / 65536 % 40)) _ whole (pulses (end - at) end x at) h step (en ∙ (rw (e1, e2) refl))
