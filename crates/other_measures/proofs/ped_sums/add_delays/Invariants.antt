use Rattle.std.proofs.Common.{length, take}
use Rattle.hour_sweep.specs.Sums.{AreSums}
use Rattle.other_measures.specs.Sums.{ped_sum_of}
use Rattle.other_measures.proofs.ped_sums.add_delays.Given as goal

abbrev pub invariant-loop-delay : goal.invariant-loop-delay
invariant-loop-delay l = AreSums (λ d. d.ped) (λ p ds. ped_sum_of ds) (length l.initial.sums) (take l.delay-index l.delays) l.sums
