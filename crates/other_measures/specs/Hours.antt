-- The numbers of one hour.
use Rattle.std.specs.Prelude.{ℕ, ◌≡◌, ◌+◌, ◌==◌, Bool, true, false, if◌then◌else◌, List, [], ◌∷◌, count_by}
use Rattle.sig_base.specs.declared.values.Row.{Row}
use Rattle.sig_base.specs.Numbers.{has_number}
use Rattle.hour_sweep.specs.Sums.{capped, merged}
use Rattle.hour_sweep.specs.Numbers.{outs_from}
use Rattle.ring_config.specs.Settings.{Settings}
use Rattle.detector_state.specs.declared.state_asked.Asked.{Asked}
use Rattle.other_measures.specs.declared.peds.Delay.{Delay}
use Rattle.other_measures.specs.declared.preempts.PreemptEvent.{PreemptEvent}
use Rattle.other_measures.specs.declared.sums.PedSum.{PedSum}
use Rattle.other_measures.specs.declared.sums.PreemptSum.{PreemptSum}
use Rattle.other_measures.specs.declared.sums.CoordSum.{CoordSum}
use Rattle.other_measures.specs.Peds.{delay_at}
use Rattle.other_measures.specs.Preempts.{event_at}
use Rattle.other_measures.specs.Sums.{ped_sum_of, preempt_sum_of, delays_of, events_of, ped_added, preempt_added, coord_added}
use Rattle.other_measures.specs.States.{EachOf, HasDetector, HasStates, HasCoordination}

-- the delays of pedestrian signals that end among the rows, in their order, where the first rows stand before them
abbrev pub delays_from : (ℕ → Bool) → Settings → List Row → List Row → List Delay
delays_from known c before rows = outs_from (delay_at known) (has_number c.peds) before rows

-- the entries and exits of preempts among the rows, in their order, where the first rows stand before them
abbrev pub events_from : (ℕ → Bool) → Settings → List Row → List Row → List PreemptEvent
events_from known c before rows = outs_from (event_at known) (has_number c.preempts) before rows

-- how many of the rows have this code
abbrev pub rows_with : ℕ → List Row → ℕ
rows_with code rows = capped (count_by (λ x. x.code == code) rows)

-- how many rows have this code, after one more row
abbrev pub code_after : ℕ → ℕ → Row → ℕ
code_after code n x = if x.code == code then capped (n + 1) else n

-- the counts of the coordination's rows, after one more row
abbrev pub coord_after : CoordSum → Row → CoordSum
coord_after s x = record s { patterns = code_after 131 s.patterns x; cycle_changes = code_after 132 s.cycle_changes x; yields = code_after 151 s.yields x; begins = code_after 152 s.begins x }

-- the sum with these tenths of the pedestrian detector: on, and undecided
abbrev pub with_detector : PedSum → ℕ → ℕ → PedSum
with_detector s on undecided = record s { detector_on = on; detector_undecided = undecided }

-- the first sum with the tenths of states of the second
abbrev pub with_states : PreemptSum → PreemptSum → PreemptSum
with_states s t = record s { input_on = t.input_on; input_undecided = t.input_undecided; rest = t.rest; entry = t.entry; track = t.track; dwell = t.dwell; undecided = t.undecided }

-- but for the tenths of its detector, the numbers of a pedestrian signal are those of its delays
abbrev pub HasDelays : List Delay → ℕ → PedSum → Type 0
HasDelays ds p s = s ≡ with_detector (ped_sum_of (delays_of p ds)) s.detector_on s.detector_undecided

-- but for the tenths of its states, the numbers of a preempt are those of its entries and exits
abbrev pub HasEvents : List PreemptEvent → ℕ → PreemptSum → Type 0
HasEvents es p s = s ≡ with_states (preempt_sum_of (events_of p es)) s

-- the coordination's numbers where it is off
abbrev pub no_coordination : CoordSum
no_coordination = record { tenths = 0 ∷ 0 ∷ 0 ∷ 0 ∷ 0 ∷ 0 ∷ 0 ∷ []; undecided = 0; patterns = 0; cycle_changes = 0; yields = 0; begins = 0 }

-- the counts of the coordination's rows, whatever their parameter: patterns 131, changes of the cycle 132, yields 151, begins of coordination 152
pub record HasRows (rows : List Row) (s : CoordSum) : Type 0 where
  pub patterns : s.patterns ≡ rows_with 131 rows
  pub cycle_changes : s.cycle_changes ≡ rows_with 132 rows
  pub yields : s.yields ≡ rows_with 151 rows
  pub begins : s.begins ≡ rows_with 152 rows

-- the numbers of pedestrian signals, preempts and the coordination, of an hour or of the window
pub record OtherNumbers : Type 0 where
  pub peds : List PedSum
  pub preempts : List PreemptSum
  pub coordination : CoordSum

-- the numbers of an hour with these known rows, but for the tenths of states, where the first rows stand before them
pub record AreNumbers (known : ℕ → Bool) (c : Settings) (before rows : List Row) (s : OtherNumbers) : Type 0 where
  pub peds : EachOf (has_number c.peds) (HasDelays (delays_from known c before rows)) 17 s.peds
  pub preempts : EachOf (has_number c.preempts) (HasEvents (events_from known c before rows)) 17 s.preempts
  pub coordination : c.coordination ≡ true → HasRows rows s.coordination
  pub off : c.coordination ≡ false → s.coordination ≡ no_coordination

-- how many tenths of the hour that begins at `from` each of these channels was in each state
pub record AreStates (At : ℕ → Asked → ℕ → Type 0) (from : ℕ) (c : Settings) (s : OtherNumbers) : Type 0 where
  pub peds : EachOf (has_number c.peds) (HasDetector At from c) 17 s.peds
  pub preempts : EachOf (has_number c.preempts) (HasStates At from c) 17 s.preempts
  pub coordination : c.coordination ≡ true → HasCoordination At from c s.coordination

-- the numbers of no hour
abbrev pub no_numbers : OtherNumbers
no_numbers = record { peds = []; preempts = []; coordination = no_coordination }

-- the numbers of two parts of a log together, signal by signal and preempt by preempt
abbrev pub others_added : OtherNumbers → OtherNumbers → OtherNumbers
others_added a b = record { peds = merged ped_added a.peds b.peds; preempts = merged preempt_added a.preempts b.preempts; coordination = coord_added a.coordination b.coordination }
