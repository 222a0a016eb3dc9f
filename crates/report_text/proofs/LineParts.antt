-- A line that the code writes in two parts.
use Rattle.std.proofs.Common.{◌≡◌, ◌++◌, ◌∷◌, ◌-◌, ◌*◌, ◌∙◌, [], ℕ, List, refl, ap, append_assoc, codes}
use Rattle.std.specs.Prelude.{slice_index}
use Rattle.arrival_measures.specs.declared.sums.ArrivalSum.{ArrivalSum}
use Rattle.split_measures.specs.declared.sums.PhaseSum.{PhaseSum}
use Rattle.other_measures.specs.declared.sums.PedSum.{PedSum}
use Rattle.other_measures.specs.declared.sums.PreemptSum.{PreemptSum}
use Rattle.other_measures.specs.declared.sums.CoordSum.{CoordSum}
use Rattle.report_text.specs.Line.{line_of, num}
use Rattle.report_text.specs.Rules.{joined}
use Rattle.report_text.specs.Approaches.{arrival_counts, arrival_shares, arrivals_line, fraction}
use Rattle.report_text.specs.Measures.{coordination_line, coordination_rows, coordination_states, number_or_dash, ped_delays, ped_line, ped_states, phase_ends, phase_line, phase_splits, preempt_delays, preempt_line, preempt_states}

-- parts, and a line after them, are one line
one_line : (ps qs : List (List ℕ)) → joined ps ++ line_of qs ≡ line_of (ps ++ qs)
one_line [] qs = refl
one_line (p ∷ ps) qs = append_assoc p (joined ps) (line_of qs) ∙ ap (λ (t : List ℕ). p ++ t) (one_line ps qs)

pub arrivals_parts : (name : List ℕ) (s : ArrivalSum) → arrival_counts name s ++ arrival_shares s ≡ arrivals_line name s
arrivals_parts name s =
    one_line (codes "approach " ∷ name ∷ num " arrivals " s.arrivals ∷ num " green " s.green ∷ num " not " s.not_green ∷ num " undecided " s.undecided ∷ num " unseen " s.unseen ∷ num " fault " s.fault ∷ [])
    (codes " share " ∷ fraction s.green (s.arrivals - s.unseen) ∷ codes " platoon " ∷ fraction (s.cycle_green * s.cycle_tenths) (s.cycle_arrivals * s.green_tenths) ∷ [])

pub phase_parts : (p : ℕ) (s : PhaseSum) → phase_splits p s ++ phase_ends s ≡ phase_line p s
phase_parts p s =
    one_line (num "phase " p ∷ num " services " s.services ∷ codes " least " ∷ number_or_dash s.least ∷ codes " greatest " ∷ number_or_dash s.greatest ∷ num " sum " s.sum ∷ [])
    (num " gap " s.gap_out ∷ num " max " s.max_out ∷ num " force " s.force_off ∷ num " unlogged " s.unlogged ∷ num " cycles " s.cycles ∷ num " cycle_sum " s.cycle_sum ∷ [])

pub ped_parts : (p : ℕ) (s : PedSum) → ped_delays p s ++ ped_states s ≡ ped_line p s
ped_parts p s =
    one_line (num "ped " p ∷ num " walks " s.walks ∷ num " delays " s.delays ∷ num " sum " s.sum ∷ codes " greatest " ∷ number_or_dash s.greatest ∷ [])
    (num " uncalled " s.uncalled ∷ num " partial " s.partial ∷ num " detector_on " s.detector_on ∷ num " detector_undecided " s.detector_undecided ∷ [])

pub preempt_parts : (p : ℕ) (s : PreemptSum) → preempt_delays p s ++ preempt_states s ≡ preempt_line p s
preempt_parts p s =
    one_line (num "preempt " p ∷ num " entries " s.entries ∷ num " delays " s.delays ∷ num " sum " s.sum ∷ num " partial " s.partial ∷ num " dwells " s.dwells ∷ num " dwell_sum " s.dwell_sum ∷ num " dwell_partial " s.dwell_partial ∷ [])
    (num " input_on " s.input_on ∷ num " input_undecided " s.input_undecided ∷ num " rest " s.rest ∷ num " entry " s.entry ∷ num " track " s.track ∷ num " dwell " s.dwell ∷ num " undecided " s.undecided ∷ [])

pub coordination_parts : (s : CoordSum) → coordination_states s ++ coordination_rows s ≡ coordination_line s
coordination_parts s =
    one_line (num "coordination 0 " (slice_index s.tenths 0) ∷ num " 1 " (slice_index s.tenths 1) ∷ num " 2 " (slice_index s.tenths 2) ∷ num " 3 " (slice_index s.tenths 3) ∷ num " 4 " (slice_index s.tenths 4) ∷ num " 5 " (slice_index s.tenths 5) ∷ num " 6 " (slice_index s.tenths 6) ∷ [])
    (num " undecided " s.undecided ∷ num " patterns " s.patterns ∷ num " cycle_changes " s.cycle_changes ∷ num " yields " s.yields ∷ num " begins " s.begins ∷ [])
