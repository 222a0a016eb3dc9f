use Rattle.std.proofs.Common.{◌≡◌, ◌++◌, ◌+◌, ℕ, Bool, List, Option, map, take}
use Rattle.std.specs.Prelude.{option_copied}
use Rattle.sig_base.specs.declared.values.Row.{Row}
use Rattle.hour_sweep.specs.Rows.{known_rows}
use Rattle.hour_sweep.specs.Hours.{point}
use Rattle.board.specs.Logs.{HourLog}
use Rattle.arrival_measures.specs.Crossing.{crossing_of}
use Rattle.arrival_measures.specs.Hours.{HasJudged, cycle_numbers, cycle_part}
use Rattle.arrival_measures.specs.Results.{IsJudgedBy, may_by}
use Rattle.arrival_measures.specs.Steps.{AreGiven}
use Rattle.arrival_measures.proofs.Each.{AreEach}
use Rattle.arrival_measures.proofs.hour.hour_numbers.Given as goal

abbrev pub invariant-loop-place : goal.invariant-loop-place
invariant-loop-place l = record {
  judged : (known : ℕ → Bool) (before rows : List Row) (hour : ℕ) (log : Option HourLog) → AreGiven known l.config before rows hour l.sources l.fn.crossings l.cuts → IsJudgedBy l.config (option_copied l.view) known rows l.sources.stretches.now hour log → AreEach (HasJudged (may_by log) known l.config before (known_rows known rows) hour) l.config.approaches l.place l.sums.items;
  cycles : (known : ℕ → Bool) (before rows : List Row) (hour : ℕ) → AreGiven known l.config before rows hour l.sources l.fn.crossings l.cuts → map cycle_part l.sums.items ≡ map (λ a. cycle_numbers known l.config before (known_rows known rows) a a.advance) (take l.place l.config.approaches);
  after : (known : ℕ → Bool) (before rows : List Row) (hour : ℕ) → AreGiven known l.config before rows hour l.sources l.fn.crossings l.cuts → l.after.items ≡ map (crossing_of known (point (hour + 1)) (before ++ known_rows known rows)) (take l.place l.config.approaches);
}
