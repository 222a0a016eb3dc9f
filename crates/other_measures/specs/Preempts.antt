-- Preempt delays and dwells, among the known rows in row order.
use Rattle.std.specs.Prelude.{ℕ, ◌-◌, ◌==◌, Bool, if◌then◌else◌, ◌&&◌, ◌||◌, List, Option, Some, None, option_map}
use Rattle.sig_base.specs.declared.values.Row.{Row}
use Rattle.hour_sweep.specs.Rows.{last, live, ◌>>=◌}
use Rattle.other_measures.specs.declared.preempts.Event.TheVariants.{Entry, Exit}
use Rattle.other_measures.specs.declared.preempts.PreemptEvent.{PreemptEvent}
use Rattle.other_measures.specs.declared.preempts.PreemptPart.{PreemptPart}
use Rattle.other_measures.specs.declared.last_rows.LastRow.{LastRow}
use Rattle.other_measures.specs.LastRows.{last_row_of, lapse_of}

-- the row turns the call input of preempt p on: code 102
unfoldable pub is_input : ℕ → Row → Bool
is_input p x = (x.param == p) && (x.code == 102)

-- the row starts the entry of preempt p: code 105
unfoldable pub is_entry : ℕ → Row → Bool
is_entry p x = (x.param == p) && (x.code == 105)

-- the row begins the dwell of preempt p: code 107
unfoldable pub is_dwell : ℕ → Row → Bool
is_dwell p x = (x.param == p) && (x.code == 107)

-- the row begins the exit of preempt p: code 111
unfoldable pub is_exit : ℕ → Row → Bool
is_exit p x = (x.param == p) && (x.code == 111)

-- the call of preempt p that waits at tenth t: the last of its calls and entries, where that is a call and every tenth since is known; whether the input has gone off since (104) isn't asked
unfoldable pub call_of : (ℕ → Bool) → ℕ → ℕ → List Row → Option Row
call_of known t p before = do x ← last (λ z. is_input p z || is_entry p z) before; if live known x.at t && is_input p x then Some x else None

-- the last entry or exit of preempt p, where every tenth from it up to t is known, with the first begin of dwell after it
abbrev pub service_of : (ℕ → Bool) → ℕ → ℕ → List Row → Option LastRow
service_of known t p before = last_row_of (λ z. is_entry p z || is_exit p z) (is_dwell p) known t before

-- what is under way of preempt p at tenth t, where these known rows stand before it
abbrev pub preempt_of : (ℕ → Bool) → ℕ → List Row → ℕ → PreemptPart
preempt_of known t before p = record { number = p; call = call_of known t p before; service = service_of known t p before }

-- the entry or the exit of p that row r is, where these rows stand before it: an entry with what ran since the call, an exit with what ran since the first row 107
unfoldable pub event_at : (ℕ → Bool) → ℕ → List Row → Row → List Row → Option PreemptEvent
event_at known p before r rest =
    if is_entry p r then Some (record { preempt = p; event = Entry (option_map (λ x. r.at - x.at) (call_of known r.at p before)) }) else
    if is_exit p r then Some (record { preempt = p; event = Exit (lapse_of r.at (service_of known r.at p before)) }) else None

-- ---- For contracts alone: the same in parts.

abbrev pub call_in : (ℕ → Bool) → ℕ → ℕ → Option Row → Option Row
call_in known t p found = do x ← found; if live known x.at t && is_input p x then Some x else None

abbrev pub delay_of : ℕ → Option Row → Option ℕ
delay_of t call = option_map (λ x. t - x.at) call
