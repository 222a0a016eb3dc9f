use Rattle.std.proofs.Common.{[], length, take}
use Rattle.hour_sweep.specs.Sums.{AreSums}
use Rattle.split_measures.specs.Phases.{phase_sum_of}
use Rattle.split_measures.proofs.hour.add_services.Given as goal

abbrev pub invariant-loop-service : goal.invariant-loop-service
invariant-loop-service l = AreSums (λ s. s.phase) (λ p ss. phase_sum_of ss []) (length l.initial.sums) (take l.service-index l.services) l.sums
