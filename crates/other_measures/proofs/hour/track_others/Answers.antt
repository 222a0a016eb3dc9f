use Rattle.std.proofs.Common.{[], ap, ◌∙◌}
use Rattle.other_measures.specs.Crossing.{Crossing}
use Rattle.other_measures.proofs.Hours.{others_tracked, carry_by}
use Rattle.other_measures.proofs.Rows.{rows_counted}
use Rattle.other_measures.proofs.hour.track_others.Goals as goal

pub returns : goal.returns
returns c =
    let rows = c.args.rows.now in
    let ss = c.args.stretches.now in
    let carry = c.args.carry.now in
    let peds = c.in_ok-peds.ensures ∙ ap (λ ps. record { parts = ps; outs = [] }) (c.deref.ensures.value ∙ ap (λ (x : Crossing). x.peds) c.carry.view_is) in
    let preempts = c.in_ok-preempts.ensures ∙ ap (λ qs. record { parts = qs; outs = [] }) (c.deref-2.ensures.value ∙ ap (λ (x : Crossing). x.preempts) c.carry.view_is) in
    let tracked = others_tracked rows ss carry c.in_ok-peds.peds c.in_ok-preempts.preempts c.of-both.result c.into_parts-peds.result peds preempts c.of-both.ensures (c.into_parts-peds.ensures ∙ c.in_ok-both.ensures.one) in
    record {
      carry = λ known cfg before hour h is. carry_by known cfg before hour rows ss carry c.into_parts-peds.result.0 c.into_parts-peds.result.1 c.into_parts-peds-2.result.0.items c.into_parts-preempts.result.0.items h is c.into_parts-peds-2.ensures.parts c.into_parts-preempts.ensures.parts (tracked known cfg before hour h is);
      delays = λ known cfg before hour h is. c.into_parts-peds-2.ensures.outs ∙ (tracked known cfg before hour h is).0.outs_are;
      events = λ known cfg before hour h is. c.into_parts-preempts.ensures.outs ∙ (tracked known cfg before hour h is).1.outs_are;
      counted = λ known hour h. rows_counted known hour rows ss c.no_coordination.result c.in_ok-both.counted c.no_coordination.ensures c.in_ok-both.ensures.other h;
    }
