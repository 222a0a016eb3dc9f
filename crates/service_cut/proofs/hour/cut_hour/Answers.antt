use Rattle.std.proofs.Common.{◌∙◌}
use Rattle.service_cut.proofs.HourLists.{lists_by, carry_by}
use Rattle.service_cut.proofs.hour.cut_hour.Goals as goal

pub returns-clause-cut : goal.returns-clause-cut
returns-clause-cut c known before hour h carry = lists_by known c.args.phases.now before hour c.args.rows.now c.args.stretches.now c.args.carry.now _ c.in_ok-tracked.tracked _ _ c.in_ok-cuts.cuts (c.deref.ensures.value ∙ c.carry.view_is) c.in_ok-tracked.ensures (c.deref-2.ensures.value ∙ c.into_parts-parts.ensures.outs) (c.deref-3.ensures.value ∙ c.into_parts-parts.ensures.parts) c.in_ok-cuts.ensures h carry

pub returns-clause-carry : goal.returns-clause-carry
returns-clause-carry c known before hour h carry = carry_by known c.args.phases.now before hour c.args.rows.now c.args.stretches.now c.args.carry.now _ c.in_ok-tracked.tracked _ (c.deref.ensures.value ∙ c.carry.view_is) c.in_ok-tracked.ensures c.into_parts-parts.ensures.parts h carry
