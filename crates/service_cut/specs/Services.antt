-- Whole services of phases, among the known rows in row order.
use Rattle.std.specs.Prelude.{ℕ, ◌==◌, nat_le, Bool, true, false, not, if◌then◌else◌, ◌&&◌, List, [], ◌∷◌, Option, Some, None, find}
use Rattle.std.specs.Option.{option_or, option_map_or}
use Rattle.std.specs.List.{list_any}
use Rattle.sig_base.specs.declared.values.Row.{Row}
use Rattle.hour_sweep.specs.Rows.{last_with, last, live, ◌>>=◌}
use Rattle.service_cut.specs.declared.items.Service.{Service}
use Rattle.service_cut.specs.declared.items.Served.{Served}
use Rattle.service_cut.specs.declared.items.Termination.{Termination}
use Rattle.service_cut.specs.declared.items.Termination.TheVariants.{GapOut, MaxOut, ForceOff, Unlogged}
use Rattle.service_cut.specs.declared.services.ServiceBegun.{ServiceBegun}
use Rattle.service_cut.specs.Signs.{sign, is_begin, is_change, is_yellow, is_end, is_cause}

-- after the first begin of yellow an end of yellow or a begin of red clearance has come
abbrev pub is_over : ℕ → List Row → Bool
is_over p [] = false
is_over p (x ∷ xs) = if is_yellow (sign p x) then list_any (λ z. is_end (sign p z)) xs else is_over p xs

-- the row that says why the green ends: the last of code 4, 5 or 6, not at a later tenth than the green's end where that has come
abbrev pub cause_in : ℕ → Option Row → List Row → Option Row
cause_in p g rows = last (λ z. is_cause (sign p z) && option_map_or (λ x. nat_le z.at x.at) g true) rows

-- the service of phase p that is under way at t: since its last begin of green, where every tenth since is known and the service isn't over; with its end of green, its begin of yellow, and why the green ends, as far as the rows since tell
unfoldable pub service_begun_of : (ℕ → Bool) → ℕ → ℕ → List Row → Option ServiceBegun
service_begun_of known t p before = do
  (b, after) ← last_with (λ z. is_begin (sign p z)) before
  let g = find (λ z. is_change (sign p z)) after
  if live known b.at t && not (is_over p after) then Some (record { b = b; g = g; y = find (λ z. is_yellow (sign p z)) after; cause = cause_in p g after }) else None

-- how the green ended, by the row that says why: 4 gap out, 5 max out, 6 force off; unlogged without one
abbrev pub termination : Option Row → Termination
termination None = Unlogged
termination (Some x) = if x.code == 4 then GapOut else (if x.code == 5 then MaxOut else ForceOff)

-- the whole service of phase p that ends with row r, where these rows stand before it and those after it: the one under way, where its end of green and its begin of yellow have come
unfoldable pub service_at : (ℕ → Bool) → ℕ → List Row → Row → List Row → Option Service
service_at known p before r rest =
    if is_end (sign p r) then (do
      s ← service_begun_of known r.at p before
      g ← s.g
      y ← s.y
      Some (record { phase = p; b = s.b.at; g = g.at; y = y.at; r = r.at; end = termination (option_or (cause_in p (Some g) rest) s.cause) })) else None

-- the four rows of the whole service of phase p that ends with row r: those of the begin of green, of its end, of the begin of yellow, and r
unfoldable pub served_at : (ℕ → Bool) → ℕ → List Row → Row → Option Served
served_at known p before r =
    if is_end (sign p r) then (do s ← service_begun_of known r.at p before; g ← s.g; y ← s.y; Some (record { phase = p; b = s.b; g = g; y = y; r = r })) else None

-- ---- For proofs alone: the same in parts.

abbrev pub is_within : Option Row → Row → Bool
is_within g z = option_map_or (λ x. nat_le z.at x.at) g true

abbrev pub service_begun : ℕ → Row → List Row → ServiceBegun
service_begun p b after =
    let g = find (λ z. is_change (sign p z)) after in
    record { b = b; g = g; y = find (λ z. is_yellow (sign p z)) after; cause = cause_in p g after }

abbrev pub service_begun_in : (ℕ → Bool) → ℕ → ℕ → Option (Row × List Row) → Option ServiceBegun
service_begun_in known t p found = do (b, after) ← found; if live known b.at t && not (is_over p after) then Some (service_begun p b after) else None

abbrev pub service_of : ℕ → ServiceBegun → Row → List Row → Option Row → Option Row → Option Service
service_of p s r rest changed turned = do
  g ← changed
  y ← turned
  Some (record { phase = p; b = s.b.at; g = g.at; y = y.at; r = r.at; end = termination (option_or (cause_in p (Some g) rest) s.cause) })

abbrev pub whole_service : ℕ → Option ServiceBegun → Row → List Row → Option Service
whole_service p begun r rest = do s ← begun; service_of p s r rest s.g s.y

abbrev pub served_of : ℕ → ServiceBegun → Row → Option Row → Option Row → Option Served
served_of p s r changed turned = do g ← changed; y ← turned; Some (record { phase = p; b = s.b; g = g; y = y; r = r })

abbrev pub whole_served : ℕ → Option ServiceBegun → Row → Option Served
whole_served p begun r = do s ← begun; served_of p s r s.g s.y
