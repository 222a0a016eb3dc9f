-- The lines of a report.
use Rattle.std.specs.Prelude.{◌++◌, ◌-◌, if◌then◌else◌, ℕ, Bool, List, [], ◌∷◌, codes, decimal, Option, filter, slice_index}
use Rattle.std.specs.List.{range_with_len}
use Rattle.std.specs.Option.{option_map_or}
use Rattle.ring_config.specs.Settings.{Settings}
use Rattle.sig_base.specs.Numbers.{has_number, has_phase}
use Rattle.split_measures.specs.declared.sums.PhaseSum.{PhaseSum}
use Rattle.other_measures.specs.declared.sums.PedSum.{PedSum}
use Rattle.other_measures.specs.declared.sums.PreemptSum.{PreemptSum}
use Rattle.other_measures.specs.declared.sums.CoordSum.{CoordSum}
use Rattle.hour_work.specs.Numbers.{Numbers}
use Rattle.report_text.specs.Line.{line_of, num}
use Rattle.report_text.specs.Rules.{joined}
use Rattle.report_text.specs.Approaches.{approaches_text}

-- a number as it is printed, or `-` where there is none
abbrev pub number_or_dash : Option ℕ → List ℕ
number_or_dash o = option_map_or decimal o (codes "-")

-- the numbers from n to 16 that there are, ascending
unfoldable pub numbers_from : (ℕ → Bool) → ℕ → List ℕ
numbers_from has n = filter has (range_with_len n (17 - n))

-- a line for each number with its own sums, in order
unfoldable pub each_line : {A : Type 0} → (ℕ → A → List ℕ) → List ℕ → List A → List ℕ
each_line line (n ∷ ns) (s ∷ ss) = line n s ++ each_line line ns ss
each_line line _ _ = []

-- the line of a phase: its services and their splits, how its greens ended, and its cycles
abbrev pub phase_line : ℕ → PhaseSum → List ℕ
phase_line p s =
    line_of (num "phase " p ∷ num " services " s.services ∷ codes " least " ∷ number_or_dash s.least ∷ codes " greatest " ∷ number_or_dash s.greatest ∷ num " sum " s.sum
    ∷ num " gap " s.gap_out ∷ num " max " s.max_out ∷ num " force " s.force_off ∷ num " unlogged " s.unlogged ∷ num " cycles " s.cycles ∷ num " cycle_sum " s.cycle_sum ∷ [])

-- the line of a pedestrian signal: its walks and their delays, the walks without a delay, and how long its detector was on
abbrev pub ped_line : ℕ → PedSum → List ℕ
ped_line p s =
    line_of (num "ped " p ∷ num " walks " s.walks ∷ num " delays " s.delays ∷ num " sum " s.sum ∷ codes " greatest " ∷ number_or_dash s.greatest
    ∷ num " uncalled " s.uncalled ∷ num " partial " s.partial ∷ num " detector_on " s.detector_on ∷ num " detector_undecided " s.detector_undecided ∷ [])

-- the line of a preempt: its entries with their delays, its dwells, how long its input was on, and its service in each state
abbrev pub preempt_line : ℕ → PreemptSum → List ℕ
preempt_line p s =
    line_of (num "preempt " p ∷ num " entries " s.entries ∷ num " delays " s.delays ∷ num " sum " s.sum ∷ num " partial " s.partial
    ∷ num " dwells " s.dwells ∷ num " dwell_sum " s.dwell_sum ∷ num " dwell_partial " s.dwell_partial ∷ num " input_on " s.input_on ∷ num " input_undecided " s.input_undecided
    ∷ num " rest " s.rest ∷ num " entry " s.entry ∷ num " track " s.track ∷ num " dwell " s.dwell ∷ num " undecided " s.undecided ∷ [])

-- the line of the coordination: the tenths in each of its seven states and in no sure state, and the rows of its codes
abbrev pub coordination_line : CoordSum → List ℕ
coordination_line s =
    line_of (num "coordination 0 " (slice_index s.tenths 0) ∷ num " 1 " (slice_index s.tenths 1) ∷ num " 2 " (slice_index s.tenths 2) ∷ num " 3 " (slice_index s.tenths 3)
    ∷ num " 4 " (slice_index s.tenths 4) ∷ num " 5 " (slice_index s.tenths 5) ∷ num " 6 " (slice_index s.tenths 6) ∷ num " undecided " s.undecided
    ∷ num " patterns " s.patterns ∷ num " cycle_changes " s.cycle_changes ∷ num " yields " s.yields ∷ num " begins " s.begins ∷ [])

-- the measures of an hour or of the window: how many hours and rows are held and how many tenths known; a line for each phase, each pedestrian signal and each preempt by ascending number, and for the coordination, where it is on; and the lines of the approaches
abbrev pub measures_text : Settings → Numbers → List ℕ
measures_text c n =
    line_of (num "held " n.held_hours ∷ num " rows " n.held_rows ∷ num " known " n.known_tenths ∷ [])
    ++ (each_line phase_line (numbers_from (has_phase c.phases) 0) n.splits
    ++ ((each_line ped_line (numbers_from (has_number c.peds) 0) n.others.peds ++ (each_line preempt_line (numbers_from (has_number c.preempts) 0) n.others.preempts
    ++ (if c.coordination then coordination_line n.others.coordination else []))) ++ approaches_text c.approaches n.arrivals n.failures))

-- the measures of the window, in answer to line n of a script
abbrev pub window_measures : ℕ → Settings → Numbers → List ℕ
window_measures n c numbers = line_of (decimal n ∷ codes " measures" ∷ []) ++ measures_text c numbers

-- the measures of one hour, in answer to line n of a script
abbrev pub hour_measures : ℕ → ℕ → Settings → Numbers → List ℕ
hour_measures n hour c numbers = line_of (decimal n ∷ num " measures " hour ∷ []) ++ measures_text c numbers

-- ---- For contracts alone: parts of these texts as the code writes them

-- the line that says how many hours and rows are held, and how many tenths are known
abbrev pub held_line : Numbers → List ℕ
held_line n = line_of (num "held " n.held_hours ∷ num " rows " n.held_rows ∷ num " known " n.known_tenths ∷ [])

-- the numbers that there are, up to 16, ascending
abbrev pub numbers_of : (ℕ → Bool) → List ℕ
numbers_of has = numbers_from has 0

-- the begin of a phase's line: its services and their splits
abbrev pub phase_splits : ℕ → PhaseSum → List ℕ
phase_splits p s =
    joined (num "phase " p ∷ num " services " s.services ∷ codes " least " ∷ number_or_dash s.least ∷ codes " greatest " ∷ number_or_dash s.greatest ∷ num " sum " s.sum ∷ [])

-- the end of a phase's line: how its greens ended, and its cycles
abbrev pub phase_ends : PhaseSum → List ℕ
phase_ends s =
    line_of (num " gap " s.gap_out ∷ num " max " s.max_out ∷ num " force " s.force_off ∷ num " unlogged " s.unlogged ∷ num " cycles " s.cycles ∷ num " cycle_sum " s.cycle_sum ∷ [])

-- the begin of a pedestrian signal's line: its walks and their delays
abbrev pub ped_delays : ℕ → PedSum → List ℕ
ped_delays p s =
    joined (num "ped " p ∷ num " walks " s.walks ∷ num " delays " s.delays ∷ num " sum " s.sum ∷ codes " greatest " ∷ number_or_dash s.greatest ∷ [])

-- the end of a pedestrian signal's line: the walks without a delay, and how long its detector was on
abbrev pub ped_states : PedSum → List ℕ
ped_states s =
    line_of (num " uncalled " s.uncalled ∷ num " partial " s.partial ∷ num " detector_on " s.detector_on ∷ num " detector_undecided " s.detector_undecided ∷ [])

-- the begin of a preempt's line: its entries with their delays, and its dwells
abbrev pub preempt_delays : ℕ → PreemptSum → List ℕ
preempt_delays p s =
    joined (num "preempt " p ∷ num " entries " s.entries ∷ num " delays " s.delays ∷ num " sum " s.sum ∷ num " partial " s.partial
    ∷ num " dwells " s.dwells ∷ num " dwell_sum " s.dwell_sum ∷ num " dwell_partial " s.dwell_partial ∷ [])

-- the end of a preempt's line: how long its input was on, and its service in each state
abbrev pub preempt_states : PreemptSum → List ℕ
preempt_states s =
    line_of (num " input_on " s.input_on ∷ num " input_undecided " s.input_undecided
    ∷ num " rest " s.rest ∷ num " entry " s.entry ∷ num " track " s.track ∷ num " dwell " s.dwell ∷ num " undecided " s.undecided ∷ [])

-- the begin of the coordination's line: the tenths in each of its seven states
abbrev pub coordination_states : CoordSum → List ℕ
coordination_states s =
    joined (num "coordination 0 " (slice_index s.tenths 0) ∷ num " 1 " (slice_index s.tenths 1) ∷ num " 2 " (slice_index s.tenths 2) ∷ num " 3 " (slice_index s.tenths 3)
    ∷ num " 4 " (slice_index s.tenths 4) ∷ num " 5 " (slice_index s.tenths 5) ∷ num " 6 " (slice_index s.tenths 6) ∷ [])

-- the end of the coordination's line: the tenths in no sure state, and the rows of its codes
abbrev pub coordination_rows : CoordSum → List ℕ
coordination_rows s =
    line_of (num " undecided " s.undecided ∷ num " patterns " s.patterns ∷ num " cycle_changes " s.cycle_changes ∷ num " yields " s.yields ∷ num " begins " s.begins ∷ [])

-- the line of the coordination, where it is on
abbrev pub coordination_text : Bool → CoordSum → List ℕ
coordination_text on s = if on then coordination_line s else []

-- a line for each phase, by ascending number
abbrev pub phases_text : Settings → Numbers → List ℕ
phases_text c n = each_line phase_line (numbers_of (has_phase c.phases)) n.splits

-- a line for each pedestrian signal, by ascending number
abbrev pub peds_text : Settings → Numbers → List ℕ
peds_text c n = each_line ped_line (numbers_of (has_number c.peds)) n.others.peds

-- a line for each preempt, by ascending number
abbrev pub preempts_text : Settings → Numbers → List ℕ
preempts_text c n = each_line preempt_line (numbers_of (has_number c.preempts)) n.others.preempts

-- the lines of the pedestrian signals, the preempts and the coordination
abbrev pub others_text : Settings → Numbers → List ℕ
others_text c n = peds_text c n ++ (preempts_text c n ++ coordination_text c.coordination n.others.coordination)
