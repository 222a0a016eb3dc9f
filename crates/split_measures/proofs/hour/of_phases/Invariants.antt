use Rattle.std.proofs.Common.{◌≡◌, get_or}
use Rattle.sig_base.specs.Numbers.{has_phase}
use Rattle.hour_sweep.specs.Sums.{by_number}
use Rattle.split_measures.specs.Phases.{zero_sum}
use Rattle.split_measures.proofs.hour.of_phases.Given as goal

abbrev pub invariant-loop-number : goal.invariant-loop-number
invariant-loop-number l = l.sums.items ≡ by_number (has_phase l.phases) (λ p. get_or l.table p zero_sum) l.number
