use Rattle.std.proofs.Common.{length, take}
use Rattle.hour_sweep.specs.Sums.{AreSums}
use Rattle.split_measures.specs.Phases.{phase_sum_of, services_of}
use Rattle.split_measures.proofs.hour.add_cycles.Given as goal

abbrev pub invariant-loop-cycle : goal.invariant-loop-cycle
invariant-loop-cycle l = AreSums (λ c. c.phase) (λ p cs. phase_sum_of (services_of p l.services) cs) (length l.initial.sums) (take l.cycle-index l.cycles) l.sums
