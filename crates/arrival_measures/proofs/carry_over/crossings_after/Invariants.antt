use Rattle.std.proofs.Common.{◌≡◌, ◌++◌, ◌+◌, ℕ, Bool, List, map, take}
use Rattle.sig_base.specs.declared.values.Row.{Row}
use Rattle.hour_sweep.specs.Rows.{known_rows}
use Rattle.hour_sweep.specs.Hours.{point}
use Rattle.service_cut.specs.Cut.{IsCut}
use Rattle.arrival_measures.specs.Crossing.{crossing_of}
use Rattle.arrival_measures.specs.Onward.{ArePassingRows}
use Rattle.arrival_measures.proofs.carry_over.crossings_after.Given as goal

abbrev pub invariant-loop-place : goal.invariant-loop-place
invariant-loop-place l =
    (known : ℕ → Bool) (before : List Row) (hour : ℕ) → ArePassingRows known l.config before hour l.hour → IsCut known l.config.phases before hour l.hour.rows.now l.cuts → l.fn.crossings ≡ map (crossing_of known (point hour) before) l.config.approaches
    → l.after.items ≡ map (crossing_of known (point (hour + 1)) (before ++ known_rows known l.hour.rows.now)) (take l.place l.config.approaches)
