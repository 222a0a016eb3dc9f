use Rattle.std.proofs.Common.{length, take}
use Rattle.hour_sweep.specs.Sums.{AreSums}
use Rattle.other_measures.specs.Sums.{preempt_sum_of}
use Rattle.other_measures.proofs.preempt_sums.add_events.Given as goal

abbrev pub invariant-loop-event : goal.invariant-loop-event
invariant-loop-event l = AreSums (λ e. e.preempt) (λ p es. preempt_sum_of es) (length l.initial.sums) (take l.event-index l.events) l.sums
