-- What each row and each gap makes of a part, and what a row gives.
use Rattle.std.specs.Prelude.{Bool, true, false, if◌then◌else◌, ◌||◌, Option, Some, None}
use Rattle.sig_base.specs.declared.values.Row.{Row}
use Rattle.other_measures.specs.declared.peds.Delay.{Delay}
use Rattle.other_measures.specs.declared.peds.PedPart.{PedPart}
use Rattle.other_measures.specs.declared.preempts.Event.TheVariants.{Entry, Exit}
use Rattle.other_measures.specs.declared.preempts.PreemptEvent.{PreemptEvent}
use Rattle.other_measures.specs.declared.preempts.PreemptPart.{PreemptPart}
use Rattle.other_measures.specs.LastRows.{lapse_of, last_row_after}
use Rattle.other_measures.specs.Peds.{is_walk, is_call}
use Rattle.other_measures.specs.Preempts.{is_input, is_entry, is_dwell, is_exit, delay_of}

abbrev pub ped_after : Row → PedPart → PedPart
ped_after x a = record a { walk = last_row_after (is_walk a.number x) (is_call a.number x) x a.walk }

abbrev pub ped_cleared : PedPart → PedPart
ped_cleared a = record a { walk = None }

abbrev pub delay_by : Row → PedPart → Option Delay
delay_by x a = if is_walk a.number x then Some (record { ped = a.number; wait = lapse_of x.at a.walk }) else None

abbrev pub call_after : Bool → Bool → Row → Option Row → Option Row
call_after true e x o = Some x
call_after false true x o = None
call_after false false x o = o

abbrev pub preempt_after : Row → PreemptPart → PreemptPart
preempt_after x a = record a {
  call = call_after (is_input a.number x) (is_entry a.number x) x a.call;
  service = last_row_after (is_entry a.number x || is_exit a.number x) (is_dwell a.number x) x a.service;
}

abbrev pub preempt_cleared : PreemptPart → PreemptPart
preempt_cleared a = record a { call = None; service = None }

abbrev pub event_by : Row → PreemptPart → Option PreemptEvent
event_by x a =
    if is_entry a.number x then Some (record { preempt = a.number; event = Entry (delay_of x.at a.call) }) else
    if is_exit a.number x then Some (record { preempt = a.number; event = Exit (lapse_of x.at a.service) }) else None
