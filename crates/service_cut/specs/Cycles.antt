-- Ends of yellow and whole cycles of phases, among the known rows in row order.
use Rattle.std.specs.Prelude.{ℕ, ◌-◌, Bool, not, if◌then◌else◌, ◌&&◌, List, [], ◌∷◌, ◌++◌, Option, Some, None, is_some, option_map}
use Rattle.std.specs.List.{list_any}
use Rattle.sig_base.specs.declared.values.Row.{Row}
use Rattle.hour_sweep.specs.Rows.{last_with, last, live, ◌>>=◌}
use Rattle.service_cut.specs.declared.items.Cycle.{Cycle}
use Rattle.service_cut.specs.declared.cycles.CycleBegun.{CycleBegun}
use Rattle.service_cut.specs.Signs.{sign, is_begin, is_yellow, is_end}
use Rattle.std.specs.Option.{option_map_or, option_or}

-- the yellow of phase p that is under way at t: its last begin of yellow, where every tenth since is known and no end of yellow has come
unfoldable pub yellow_of : (ℕ → Bool) → ℕ → ℕ → List Row → Option Row
yellow_of known t p before = do
  (y, after) ← last_with (λ z. is_yellow (sign p z)) before
  if live known y.at t && not (list_any (λ z. is_end (sign p z)) after) then Some y else None

-- the row ends a yellow of phase p, or begins red clearance after it, and every tenth since the begin of this yellow is known; these rows stand before it
unfoldable pub is_yellow_end : (ℕ → Bool) → ℕ → List Row → Row → Bool
is_yellow_end known p before r = is_end (sign p r) && is_some (yellow_of known r.at p before)

-- the last yellow end among the rows with those after it, where the first rows stand before them
abbrev pub last_end_from : (ℕ → Bool) → ℕ → List Row → List Row → Option (Row × List Row)
last_end_from known p before [] = None
last_end_from known p before (x ∷ xs) = option_or (last_end_from known p (before ++ x ∷ []) xs) (if is_yellow_end known p before x then Some (x, xs) else None)

-- the cycle of phase p that is under way at t: since its last yellow end, where every tenth since is known, with the last begins of green and of yellow
unfoldable pub cycle_begun_of : (ℕ → Bool) → ℕ → ℕ → List Row → Option CycleBegun
cycle_begun_of known t p before = do
  (r, after) ← last_end_from known p [] before
  if live known r.at t then Some (record { from = r; green = last (λ z. is_begin (sign p z)) after; yellow = last (λ z. is_yellow (sign p z)) after }) else None

-- how many tenths after another one a row comes; 0 where there is none
abbrev pub offset_of : ℕ → Option Row → ℕ
offset_of from row = option_map_or (λ x. x.at - from) row 0

-- the cycle from its begin to row r, where it has begun
abbrev pub cycle_of : ℕ → Option CycleBegun → Row → Option Cycle
cycle_of p begun r = option_map (λ s. record { phase = p; from = s.from.at; to = r.at; green = offset_of s.from.at s.green; yellow = offset_of s.from.at s.yellow }) begun

-- the whole cycle of phase p that ends with row r, where these rows stand before it
unfoldable pub cycle_at : (ℕ → Bool) → ℕ → List Row → Row → Option Cycle
cycle_at known p before r = if is_yellow_end known p before r then cycle_of p (cycle_begun_of known r.at p before) r else None

-- ---- For proofs alone: the same in parts.

abbrev pub yellow_in : (ℕ → Bool) → ℕ → ℕ → Option (Row × List Row) → Option Row
yellow_in known t p None = None
yellow_in known t p (Some (y, after)) = if live known y.at t && not (list_any (λ z. is_end (sign p z)) after) then Some y else None

abbrev pub cycle_begun : ℕ → Row → List Row → CycleBegun
cycle_begun p from after = record { from = from; green = last (λ z. is_begin (sign p z)) after; yellow = last (λ z. is_yellow (sign p z)) after }

abbrev pub cycle_begun_in : (ℕ → Bool) → ℕ → ℕ → Option (Row × List Row) → Option CycleBegun
cycle_begun_in known t p None = None
cycle_begun_in known t p (Some (r, after)) = if live known r.at t then Some (cycle_begun p r after) else None
