-- Arrivals and green in a cycle of a phase, by the rows alone.
--
-- A cycle begins with an end of yellow, and each of its tenths is known. So its rows say what the
-- phase shows: it is green from a begin of green up to the next end of green.
use Rattle.std.specs.Prelude.{ℕ, zero, suc, ◌+◌, ◌-◌, ◌==◌, Bool, true, false, if◌then◌else◌, ◌&&◌, ◌||◌, List, [], ◌∷◌, length, count_by}
use Rattle.sig_base.specs.declared.values.Row.{Row}
use Rattle.arrival_measures.specs.Arrivals.{is_on, ons_of, rows_within}

-- the row begins the green of phase p: code 1
abbrev pub begins_green : ℕ → Row → Bool
begins_green p x = x.param == p && x.code == 1

-- the row ends the green of phase p: code 7 or 8
abbrev pub ends_green : ℕ → Row → Bool
ends_green p x = x.param == p && (x.code == 7 || x.code == 8)

-- whether phase p is green after these rows, where g says whether it was before them
abbrev pub greens : ℕ → Bool → List Row → Bool
greens p g [] = g
greens p g (x ∷ xs) = greens p (if begins_green p x then true else (if ends_green p x then false else g)) xs

-- whether phase p is green at the end of tenth t, in a cycle that begins at tenth a, by the rows since
unfoldable pub shows_green : ℕ → ℕ → List Row → ℕ → Bool
shows_green p a rows t = greens p false (rows_within a (t + 1) rows)

-- how many of the n tenths from t on pass the test
unfoldable pub tenths_with : (ℕ → Bool) → ℕ → ℕ → ℕ
tenths_with test t zero = 0
tenths_with test t (suc n) = (if test t then 1 else 0) + tenths_with test (t + 1) n

-- how many rows at which detector d goes on stand from tenth a up to tenth b
abbrev pub arrivals_in : ℕ → ℕ → ℕ → List Row → ℕ
arrivals_in d a b rows = length (ons_of d (rows_within a b rows))

-- how many of them are at a tenth at whose end phase p is green, in a cycle that begins at tenth a
abbrev pub green_arrivals_in : ℕ → ℕ → ℕ → ℕ → List Row → ℕ
green_arrivals_in p d a b rows = count_by (λ x. is_on d x && shows_green p a rows x.at) (rows_within a b rows)

-- how many of the tenths from a up to b have phase p green at their end, in a cycle that begins at tenth a
abbrev pub green_tenths_in : ℕ → ℕ → ℕ → List Row → ℕ
green_tenths_in p a b rows = tenths_with (shows_green p a rows) a (b - a)

-- For contracts alone: whether the phase is green after a row, where it was or wasn't before.
abbrev pub green_after : ℕ → Row → Bool → Bool
green_after p x g = if begins_green p x then true else (if ends_green p x then false else g)
