use Rattle.std.proofs.Common.{◌∙◌, sym, ap}
use Rattle.other_measures.specs.Sums.{entry_sum}
use Rattle.other_measures.proofs.Ones.{delay_sum}
use Rattle.other_measures.proofs.preempt_sums.of_entry.Goals as goal

pub returns-in-Some : goal.returns-in-Some
returns-in-Some c = delay_sum c.nothing.result c.in-Some.delay c.from.result c.nothing.ensures.zero c.from.ensures c.from.type_inv ∙ ap (λ o. entry_sum o) (sym c.in-Some.is)
