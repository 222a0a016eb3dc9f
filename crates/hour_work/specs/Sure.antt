-- Faults of detectors, over all histories of the window that agree.
use Rattle.std.specs.Prelude.{ℕ, ◌≡◌, ◌≢◌, ◌↔◌, true, List, ◌∷◌, ◌++◌, Some, length}
use Rattle.sig_base.specs.declared.values.Row.{Row}
use Rattle.reach.specs.Runs.{State}
use Rattle.board.specs.History.{events_at}
use Rattle.board.specs.Moves.{RowsIn}
use Rattle.hour_store.specs.Store.{IsStore, Store, is_known, known_rows}
use Rattle.signal_log.specs.Log.{HasHistory, Log, log_of, window_end}
use Rattle.signal_log.specs.States.{IsReached, MayBeAfter}
use Rattle.ring_config.specs.Settings.{Settings, spec_place}
use Rattle.ring_config.specs.Sound.{IsSound}
use Rattle.arrival_measures.specs.Points.{detector_channel}
use Rattle.arrival_measures.specs.Arrivals.{is_on}
use Rattle.arrival_measures.specs.Faults.{faulty, is_arrival, is_fault_row}

-- the colour Fault of a detector
abbrev pub fault : ℕ
fault = 2

-- in some history that agrees, channel i is in the state before row x, where these known rows stand before it
abbrev pub MayBeBefore : Log → ℕ → List Row → Row → State → Type 0
MayBeBefore log i before x v = MayBeAfter log i x.at (length (events_at before x.at)) v

-- in all histories that agree, channel i is in a fault before row x
abbrev pub IsInFault : Log → ℕ → List Row → Row → Type 0
IsInFault log i before x = (v : State) → MayBeBefore log i before x v → v.colour ≡ fault

-- in some history that agrees it isn't
abbrev pub MayWork : Log → ℕ → List Row → Row → Type 0
MayWork log i before x = (v : State) × MayBeBefore log i before x v × (v.colour ≢ fault)

-- where some history agrees, a detector is faulty by the known rows before a known row exactly where it is in a fault before it in all that agree
abbrev pub FaultyIsSure : Type 0
FaultyIsSure = (c : Settings) (s : Store) (d i : ℕ) (before : List Row) (x : Row) (rest : List Row)
    → IsSound c → IsStore s → HasHistory (log_of c.specs s)
    → spec_place c.specs (detector_channel d) ≡ Some i → known_rows s ≡ before ++ x ∷ rest
    → (faulty (is_known s) x.at before d ≡ true) ↔ IsInFault (log_of c.specs s) i before x

-- a row 82 of a detector is a fault row exactly where that is so before it, and an arrival where the detector may work
abbrev pub FaultRowsAreSure : Type 0
FaultRowsAreSure = (c : Settings) (s : Store) (d i : ℕ) (before : List Row) (x : Row) (rest : List Row)
    → IsSound c → IsStore s → HasHistory (log_of c.specs s)
    → spec_place c.specs (detector_channel d) ≡ Some i → known_rows s ≡ before ++ x ∷ rest → is_on d x ≡ true
    → ((is_fault_row (is_known s) before x ≡ true) ↔ IsInFault (log_of c.specs s) i before x)
    × ((is_arrival (is_known s) before x ≡ true) ↔ MayWork (log_of c.specs s) i before x)

-- each run of channel i from before the window up to tenth t that agrees leads to a fault
abbrev pub LeadsToFault : Log → ℕ → ℕ → Type 0
LeadsToFault log i t = (v : State) → IsReached log i t v → v.colour ≡ fault

-- at the start of a tenth, as at an hour point, a detector is faulty by the known rows before it exactly where each run up to it that agrees leads to a fault
abbrev pub FaultyByStates : Type 0
FaultyByStates = (c : Settings) (s : Store) (d i t : ℕ) (before rest : List Row)
    → IsSound c → IsStore s → spec_place c.specs (detector_channel d) ≡ Some i
    → known_rows s ≡ before ++ rest → RowsIn 0 t before → RowsIn t (window_end (log_of c.specs s)) rest
    → (faulty (is_known s) t before d ≡ true) ↔ LeadsToFault (log_of c.specs s) i t
