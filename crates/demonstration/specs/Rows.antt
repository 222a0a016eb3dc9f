-- The rows of the demonstration: services of phases 2 and 4, and pulses of detector 5.
use Rattle.std.specs.Prelude.{◌+◌, ◌%◌, ◌==◌, ◌++◌, nat_lt, if◌then◌else◌, ℕ, zero, suc, List, [], ◌∷◌}
use Rattle.sig_base.specs.declared.values.Row.{Row}
use Rattle.demonstration.specs.Draws.{drawn, next}

-- a row by its three parts
abbrev pub row : ℕ → ℕ → ℕ → Row
row at code param = record { at = at; code = code; param = param }

-- a service of this phase from this tenth on, with so many tenths of green, 35 of yellow and 15 of red clearance
abbrev pub service_rows : ℕ → ℕ → ℕ → ℕ → List Row
service_rows at phase green ending =
    row at 0 phase ∷ row at 1 phase
    ∷ row (at + green) ending phase ∷ row (at + green) 7 phase ∷ row (at + green) 8 phase
    ∷ row (at + green + 35) 9 phase ∷ row (at + green + 35) 10 phase
    ∷ row (at + green + 50) 11 phase ∷ row (at + green + 50) 12 phase ∷ []

-- the services from this tenth on, as long as one begins before the end, where the sequence stands at x; so many are looked at.
-- By the next two draws a green lasts 100 to 299 tenths and ends by one of the codes 4 to 6; phases 2 and 4 take turns
unfoldable pub services : ℕ → ℕ → ℕ → ℕ → ℕ → List Row
services zero end x at phase = []
services (suc k) end x at phase =
    let green = 100 + drawn (next x) % 200 in
    let rows = service_rows at phase green (4 + drawn (next (next x)) % 3) in
    if nat_lt at end then rows ++ services k end (next (next x)) (at + green + 50) (if phase == 2 then 4 else 2) else []

-- the pulses after this tenth, as long as the last one ended before the end, where the sequence stands at x; so many are looked at.
-- By the next two draws 20 to 119 tenths pass until the detector goes on, and it stays on for 5 to 44
unfoldable pub pulses : ℕ → ℕ → ℕ → ℕ → List Row
pulses zero end x at = []
pulses (suc k) end x at =
    let on = at + (20 + drawn (next x) % 100) in
    let off = on + (5 + drawn (next (next x)) % 40) in
    if nat_lt at end then row on 82 5 ∷ row off 81 5 ∷ pulses k end (next (next x)) off else []

-- For contracts alone: the phase that is served after this one.
abbrev pub other_phase : ℕ → ℕ
other_phase phase = if phase == 2 then 4 else 2

-- For contracts alone: the detector goes on at this tenth, and off so many later.
abbrev pub pulse_rows : ℕ → ℕ → List Row
pulse_rows on held = row on 82 5 ∷ row (on + held) 81 5 ∷ []
