use Rattle.std.proofs.Common.{◌≡◌, ◌++◌, ℕ, Bool, List, take}
use Rattle.sig_base.specs.declared.values.Row.{Row}
use Rattle.hour_sweep.specs.Sums.{own}
use Rattle.hour_sweep.specs.Rows.{known_rows}
use Rattle.arrival_measures.specs.Cycles.{numbers_of}
use Rattle.arrival_measures.specs.Steps.{AreUnderWay, GiveSame, numbers_in}
use Rattle.arrival_measures.proofs.cycles.cycle_sum.Given as goal

abbrev pub invariant-loop-cycle : goal.invariant-loop-cycle
invariant-loop-cycle l = (known : ℕ → Bool) (before told : List Row) (end : ℕ) → AreUnderWay known l.phase l.detector before l.rows l.first end l.begun l.cycles → GiveSame l.phase l.detector (before ++ known_rows known l.rows) told l.cycles → numbers_in l.sum ≡ numbers_of l.phase l.detector told (own (λ x. x.phase) l.phase (take l.cycle-index l.cycles))
