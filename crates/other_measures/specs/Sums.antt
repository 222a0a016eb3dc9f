-- The numbers of pedestrian signals and of preempts, as counts and sums over delays and events.
use Rattle.std.specs.Prelude.{ℕ, ◌+◌, Bool, true, false, List, [], ◌∷◌, Option, Some, None, length, sum, count_by, filter_map, slice_index_or}
use Rattle.hour_sweep.specs.Sums.{capped, greater, greatest, own}
use Rattle.other_measures.specs.declared.last_rows.Lapse.{Lapse}
use Rattle.other_measures.specs.declared.last_rows.Lapse.TheVariants.{Ran, NotBegun, Partial}
use Rattle.other_measures.specs.declared.peds.Delay.{Delay}
use Rattle.other_measures.specs.declared.preempts.Event.{Event}
use Rattle.other_measures.specs.declared.preempts.Event.TheVariants.{Entry, Exit}
use Rattle.other_measures.specs.declared.preempts.PreemptEvent.{PreemptEvent}
use Rattle.other_measures.specs.declared.sums.PedSum.{PedSum}
use Rattle.other_measures.specs.declared.sums.PreemptSum.{PreemptSum}
use Rattle.other_measures.specs.declared.sums.CoordSum.{CoordSum}

-- how long it ran, where that is known
abbrev pub ran : Lapse → Option ℕ
ran (Ran n) = Some n
ran _ = None

-- nothing had begun that could have run
abbrev pub is_not_begun : Lapse → Bool
is_not_begun NotBegun = true
is_not_begun _ = false

-- the begin isn't known: there is no earlier row since which every tenth is known
abbrev pub is_partial : Lapse → Bool
is_partial Partial = true
is_partial _ = false

-- the delays that are whole
abbrev pub waits : List Delay → List ℕ
waits ds = filter_map (λ d. ran d.wait) ds

-- the numbers of these delays, without those of the detector
unfoldable pub ped_sum_of : List Delay → PedSum
ped_sum_of ds = record {
  walks = capped (length ds);
  delays = capped (length (waits ds));
  sum = capped (sum (waits ds));
  greatest = greatest (waits ds);
  uncalled = capped (count_by (λ d. is_not_begun d.wait) ds);
  partial = capped (count_by (λ d. is_partial d.wait) ds);
  detector_on = 0;
  detector_undecided = 0;
}

-- a pedestrian signal's numbers of two parts of a log together
abbrev pub ped_added : PedSum → PedSum → PedSum
ped_added a b = record {
  walks = capped (a.walks + b.walks);
  delays = capped (a.delays + b.delays);
  sum = capped (a.sum + b.sum);
  greatest = greater a.greatest b.greatest;
  uncalled = capped (a.uncalled + b.uncalled);
  partial = capped (a.partial + b.partial);
  detector_on = capped (a.detector_on + b.detector_on);
  detector_undecided = capped (a.detector_undecided + b.detector_undecided);
}

-- the delay of an entry, where it is known
abbrev pub delay_in : Event → Option ℕ
delay_in (Entry d) = d
delay_in (Exit l) = None

-- a preempt's entry
abbrev pub is_entry_event : Event → Bool
is_entry_event (Entry d) = true
is_entry_event (Exit l) = false

-- an entry before which no call is known since the last entry, also where there was none
abbrev pub is_late_entry : Event → Bool
is_late_entry (Entry None) = true
is_late_entry (Entry (Some n)) = false
is_late_entry (Exit l) = false

-- the dwell of an exit, where there is one
abbrev pub dwell_in : Event → Option ℕ
dwell_in (Entry d) = None
dwell_in (Exit l) = ran l

-- an exit whose dwell isn't known
abbrev pub is_late_exit : Event → Bool
is_late_exit (Entry d) = false
is_late_exit (Exit l) = is_partial l

-- the delays of these entries that are known
abbrev pub preempt_delays : List PreemptEvent → List ℕ
preempt_delays es = filter_map (λ e. delay_in e.event) es

-- the dwells of these exits that are known
abbrev pub preempt_dwells : List PreemptEvent → List ℕ
preempt_dwells es = filter_map (λ e. dwell_in e.event) es

-- the numbers of these entries and exits, without those of the states
unfoldable pub preempt_sum_of : List PreemptEvent → PreemptSum
preempt_sum_of es = record {
  entries = capped (count_by (λ e. is_entry_event e.event) es);
  delays = capped (length (preempt_delays es));
  sum = capped (sum (preempt_delays es));
  partial = capped (count_by (λ e. is_late_entry e.event) es);
  dwells = capped (length (preempt_dwells es));
  dwell_sum = capped (sum (preempt_dwells es));
  dwell_partial = capped (count_by (λ e. is_late_exit e.event) es);
  input_on = 0;
  input_undecided = 0;
  rest = 0;
  entry = 0;
  track = 0;
  dwell = 0;
  undecided = 0;
}

-- a preempt's numbers of two parts of a log together
abbrev pub preempt_added : PreemptSum → PreemptSum → PreemptSum
preempt_added a b = record {
  entries = capped (a.entries + b.entries);
  delays = capped (a.delays + b.delays);
  sum = capped (a.sum + b.sum);
  partial = capped (a.partial + b.partial);
  dwells = capped (a.dwells + b.dwells);
  dwell_sum = capped (a.dwell_sum + b.dwell_sum);
  dwell_partial = capped (a.dwell_partial + b.dwell_partial);
  input_on = capped (a.input_on + b.input_on);
  input_undecided = capped (a.input_undecided + b.input_undecided);
  rest = capped (a.rest + b.rest);
  entry = capped (a.entry + b.entry);
  track = capped (a.track + b.track);
  dwell = capped (a.dwell + b.dwell);
  undecided = capped (a.undecided + b.undecided);
}

-- the tenths in state c of two parts of a log together
abbrev pub tenth_added : List ℕ → List ℕ → ℕ → ℕ
tenth_added xs ys c = capped (slice_index_or xs c 0 + slice_index_or ys c 0)

-- the coordination's numbers of two parts of a log together
abbrev pub coord_added : CoordSum → CoordSum → CoordSum
coord_added a b = record {
  tenths = tenth_added a.tenths b.tenths 0 ∷ tenth_added a.tenths b.tenths 1 ∷ tenth_added a.tenths b.tenths 2 ∷ tenth_added a.tenths b.tenths 3 ∷ tenth_added a.tenths b.tenths 4 ∷ tenth_added a.tenths b.tenths 5 ∷ tenth_added a.tenths b.tenths 6 ∷ [];
  undecided = capped (a.undecided + b.undecided);
  patterns = capped (a.patterns + b.patterns);
  cycle_changes = capped (a.cycle_changes + b.cycle_changes);
  yields = capped (a.yields + b.yields);
  begins = capped (a.begins + b.begins);
}

-- the delays of pedestrian signal p among these
abbrev pub delays_of : ℕ → List Delay → List Delay
delays_of p ds = own (λ d. d.ped) p ds

-- the entries and exits of preempt p among these
abbrev pub events_of : ℕ → List PreemptEvent → List PreemptEvent
events_of p es = own (λ e. e.preempt) p es

-- the numbers of no delay, and of no entry or exit
abbrev pub no_ped_sum : PedSum
no_ped_sum = record { walks = 0; delays = 0; sum = 0; greatest = None; uncalled = 0; partial = 0; detector_on = 0; detector_undecided = 0 }

abbrev pub no_preempt_sum : PreemptSum
no_preempt_sum = record { entries = 0; delays = 0; sum = 0; partial = 0; dwells = 0; dwell_sum = 0; dwell_partial = 0; input_on = 0; input_undecided = 0; rest = 0; entry = 0; track = 0; dwell = 0; undecided = 0 }

-- the numbers of one entry, and of one exit
abbrev pub entry_sum : Option ℕ → PreemptSum
entry_sum None = record no_preempt_sum { entries = 1; partial = 1 }
entry_sum (Some n) = record no_preempt_sum { entries = 1; delays = 1; sum = capped n }

abbrev pub exit_sum : Lapse → PreemptSum
exit_sum (Ran n) = record no_preempt_sum { dwells = 1; dwell_sum = capped n }
exit_sum NotBegun = no_preempt_sum
exit_sum Partial = record no_preempt_sum { dwell_partial = 1 }
