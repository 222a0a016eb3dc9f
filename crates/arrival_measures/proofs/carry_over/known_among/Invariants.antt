use Rattle.std.proofs.Common.{◌≡◌, ℕ, Bool, take}
use Rattle.gap_map.specs.Stretches.{AreStretches}
use Rattle.hour_sweep.specs.Hours.{AreOrdered}
use Rattle.hour_sweep.specs.Rows.{known_rows}
use Rattle.arrival_measures.proofs.carry_over.known_among.Given as goal

abbrev pub invariant-loop-row : goal.invariant-loop-row
invariant-loop-row l = (known : ℕ → Bool) (a b : ℕ) → AreStretches known a b l.stretches → AreOrdered a b l.rows → l.own.items ≡ known_rows known (take l.row-index l.rows)
