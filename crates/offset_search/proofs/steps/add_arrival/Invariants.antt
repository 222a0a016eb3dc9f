use Rattle.std.proofs.Common.{ℕ, ◌+◌, ◌-◌, ◌&&◌, length}
use Rattle.std.specs.Prelude.{nat_lt}
use Rattle.offset_search.specs.Shifted.{meets_green}
use Rattle.offset_search.specs.Steps.{AreSteps, one_if}
use Rattle.offset_search.proofs.steps.add_arrival.Given as goal

abbrev pub invariant-loop-shift : goal.invariant-loop-shift
invariant-loop-shift l = (f : ℕ → ℕ) → AreSteps f l.initial.steps → AreSteps (λ j. f j + one_if (nat_lt j l.shift && meets_green l.arrival j)) l.steps

abbrev pub decreases-loop-shift : goal.decreases-loop-shift
decreases-loop-shift l = length l.initial.steps - l.shift
