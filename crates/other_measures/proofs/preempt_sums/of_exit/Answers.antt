use Rattle.std.proofs.Common.{◌∙◌, sym, ap}
use Rattle.other_measures.specs.Sums.{exit_sum}
use Rattle.other_measures.proofs.Ones.{dwell_sum}
use Rattle.other_measures.proofs.preempt_sums.of_exit.Goals as goal

pub returns-in-Ran : goal.returns-in-Ran
returns-in-Ran c = dwell_sum c.nothing.result c.in-Ran.dwell c.from.result c.nothing.ensures.zero c.from.ensures c.from.type_inv ∙ ap (λ l. exit_sum l) (sym c.in-Ran.is)
