-- The measures of an hour, and the report.
use Rattle.std.proofs.Common.{◌≡◌, ℕ, ◌<◌, ◌++◌, List, length, refl}
use Rattle.std.specs.Prelude.{is_some}
use Rattle.board.specs.Logs.{first_tenth}
use Rattle.hour_store.specs.Store.{IsStore, Store, count_in, held_at, is_known}
use Rattle.hour_sweep.specs.Sums.{one_if}
use Rattle.ring_config.specs.Settings.{Settings}
use Rattle.ring_config.specs.Sound.{IsSound}
use Rattle.signal_log.specs.Log.{HasHistory, log_of}
use Rattle.rule_audit.specs.declared.lines.AuditLine.{AuditLine}
use Rattle.rule_audit.specs.Rules.{rules_for}
use Rattle.split_measures.specs.declared.failures.SplitSum.{SplitSum}
use Rattle.split_measures.specs.declared.sums.PhaseSum.{PhaseSum}
use Rattle.split_measures.specs.Phases.{phase_sums}
use Rattle.other_measures.specs.Hours.{OtherNumbers}
use Rattle.arrival_measures.specs.declared.sums.ArrivalSum.{ArrivalSum}
use Rattle.hour_work.specs.Counts.{counts_of}
use Rattle.hour_work.specs.Measures.{AreMeasures, MayBeIn, MeetsIn, cycles_in, services_in}
use Rattle.hour_work.specs.Numbers.{Numbers, count_in_hour}
use Rattle.hour_work.specs.Reports.{IsHourPart, IsReport}
use Rattle.hour_work.specs.Rows.{earlier_rows, own_rows}
use Rattle.hour_work.specs.Verdicts.{AreAuditLines}
use Rattle.transcript_laws.specs.Exists.{NotNone}
use Rattle.transcript_laws.proofs.Chance.{listed, then, with}
use Rattle.transcript_laws.proofs.ArrivalsExist.{arrival_sums_exist}
use Rattle.transcript_laws.proofs.OthersExist.{others_exist}
use Rattle.transcript_laws.proofs.SplitsExist.{log_upto, split_sums_exist}

-- an hour has its measures
pub measures_exist : (c : Settings) (s : Store) (hour : ℕ) → IsSound c → IsStore s → length s.hours ≡ c.window.hours → HasHistory (log_of c.specs s) → hour < length s.hours → NotNone ((splits : List PhaseSum) × (failures : List SplitSum) × (others : OtherNumbers) × (arrivals : List ArrivalSum) × AreMeasures c s hour splits failures others arrivals)
measures_exist c s hour sound store size has lt =
    let known = is_known s in
    let before = earlier_rows s hour in
    let rows = own_rows s hour in
    then (split_sums_exist (log_of c.specs s) c hour (before ++ rows) (log_upto c s hour sound store has lt)) (λ (failures, verdicts).
    then (others_exist known before rows (MeetsIn c s) (first_tenth hour) c sound) (λ (others, numbers, states).
    with (arrival_sums_exist (MayBeIn c s) known c before rows hour sound) (λ (arrivals, judged, whole_cycles). (
      phase_sums c.phases (services_in c s hour) (cycles_in c s hour),
      failures,
      others,
      arrivals,
      record { phases = refl; verdicts = verdicts; numbers = numbers; states = states; judged = judged; whole_cycles = whole_cycles },
    ))))

-- a store has its report, where each of its hours has its audit lines
pub report_exists : (c : Settings) (s : Store) → IsSound c → IsStore s → length s.hours ≡ c.window.hours → HasHistory (log_of c.specs s) → ((hour : ℕ) → hour < length s.hours → NotNone ((lines : List AuditLine) × AreAuditLines c s hour lines)) → NotNone ((all : List Numbers) × IsReport c s all)
report_exists c s sound store size has told =
    with (listed (IsHourPart c s) (length s.hours) (λ hour lt.
    then (told hour lt) (λ (lines, are_lines).
    with (measures_exist c s hour sound store size has lt) (λ (splits, failures, others, arrivals, measures). (
      record {
        held_hours = one_if (is_some (held_at s hour));
        held_rows = count_in (held_at s hour);
        known_tenths = count_in_hour (is_known s) hour;
        rules = counts_of (length (rules_for c)) lines;
        splits = splits;
        failures = failures;
        others = others;
        arrivals = arrivals;
      },
      record { held_hours = refl; held_rows = refl; known_tenths = refl; lines = lines; are_lines = are_lines; rules = refl; measures = measures },
    ))))) (λ (all, long, each). (all, record { size = long; each = λ hour d lt. each hour d lt }))
