use Rattle.std.proofs.Common.{◌∙◌}
use Rattle.other_measures.proofs.Hours.{numbers_are}
use Rattle.other_measures.proofs.hour.over_hour.Goals as goal

pub returns-clause-numbers : goal.returns-clause-numbers
returns-clause-numbers c = λ known before hour h is.
    let cfg = c.args.config.now in
    let next = c.in_ok-tracked in
    numbers_are known cfg before c.args.rows.now c.deref.result.now c.deref-2.result.now c.in_ok-peds.peds.items c.in_ok-preempts.preempts.items c.coordination_of-coordination.result
    (c.deref.ensures.value ∙ next.ensures.delays known cfg before hour h is) (c.deref-2.ensures.value ∙ next.ensures.events known cfg before hour h is)
    c.in_ok-peds.ensures.delays c.in_ok-preempts.ensures.events (λ on. c.coordination_of-coordination.ensures.rows on _ (next.ensures.counted known hour h)) c.coordination_of-coordination.ensures.off

pub returns-clause-states : goal.returns-clause-states
returns-clause-states c = λ log first is. record {
  peds = c.in_ok-peds.ensures.detector log first is;
  preempts = c.in_ok-preempts.ensures.states log first is;
  coordination = λ on. c.coordination_of-coordination.ensures.states on log first is;
}
