-- Faults of detectors, by the known rows alone: a detector goes off with code 81 and on with 82; 83
-- restores it after a fault, and 84 to 88 begin one. An unknown tenth leaves open what it is.
use Rattle.std.specs.Prelude.{ℕ, ◌==◌, nat_le, not, Bool, false, if◌then◌else◌, ◌&&◌, List, [], ◌∷◌, ◌++◌, Option}
use Rattle.sig_base.specs.declared.values.Row.{Row}
use Rattle.hour_sweep.specs.Rows.{last, live}
use Rattle.std.specs.Option.{option_map_or}

-- the row is one of detector d: a code from 81 to 88
abbrev pub is_of : ℕ → Row → Bool
is_of d x = x.param == d && (nat_le 81 x.code && nat_le x.code 88)

-- at tenth t, with these known rows before it, detector d is sure to have a fault: its last row begins one, a code from 84 on, and each tenth since is known, so that nothing can have ended the fault
unfoldable pub faulty : (ℕ → Bool) → ℕ → List Row → ℕ → Bool
faulty known t before d = option_map_or (λ x. nat_le 84 x.code && live known x.at t) (last (is_of d) before) false

-- a vehicle is counted: the row says that a detector goes on, and the detector isn't sure to have a fault there, by the known rows before
abbrev pub is_arrival : (ℕ → Bool) → List Row → Row → Bool
is_arrival known before x = x.code == 82 && not (faulty known x.at before x.param)

-- a row that is left out as a fault's: a detector goes on that is sure to have a fault there
abbrev pub is_fault_row : (ℕ → Bool) → List Row → Row → Bool
is_fault_row known before x = x.code == 82 && faulty known x.at before x.param

-- the rows that pass a test of them and the rows before them, where the first rows stand before them
abbrev pub passing_from : (List Row → Row → Bool) → List Row → List Row → List Row
passing_from test before [] = []
passing_from test before (x ∷ xs) = let rest = passing_from test (before ++ x ∷ []) xs in if test before x then x ∷ rest else rest

-- the actuations among these known rows, of all detectors, that aren't left out as a fault's
abbrev pub arrivals_from : (ℕ → Bool) → List Row → List Row → List Row
arrivals_from known before rows = passing_from (is_arrival known) before rows

-- the actuations among these known rows, of all detectors, that are left out as a fault's
abbrev pub faults_from : (ℕ → Bool) → List Row → List Row → List Row
faults_from known before rows = passing_from (is_fault_row known) before rows

-- ---- For contracts alone: the same in parts.

-- the code is one of a detector's own: 81 to 88
abbrev pub is_own : ℕ → Bool
is_own code = nat_le 81 code && nat_le code 88

-- of a detector's own codes, the code begins a fault
abbrev pub begins_fault : ℕ → Bool
begins_fault code = nat_le 84 code

abbrev pub faulty_since : (ℕ → Bool) → ℕ → Option Row → Bool
faulty_since known t found = option_map_or (λ x. nat_le 84 x.code && live known x.at t) found false
