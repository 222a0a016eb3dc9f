use Rattle.std.proofs.Common.{ap, ◌∙◌}
use Rattle.sig_base.specs.Numbers.{has_number}
use Rattle.other_measures.specs.Hours.{HasEvents}
use Rattle.other_measures.specs.States.{HasStates, MetBy}
use Rattle.other_measures.proofs.Tables.{each_none, each_more, each_passed, is_number}
use Rattle.other_measures.proofs.Hours.{events_at}
use Rattle.other_measures.proofs.hour.preempt_sums.Goals as goal
use Rattle.other_measures.proofs.hour.preempt_sums.Goals.{then-has_number+in_ok-push, else-has_number}

pub loop-preempt-init : goal.loop-preempt-init
loop-preempt-init c = record {
  events = each_none (has_number c.args.config.now.preempts) (HasEvents c.args.events.now) c.new-sums.result.items c.new-sums.ensures.items;
  states = λ log first is. each_none (has_number c.args.config.now.preempts) (HasStates (MetBy log) first c.args.config.now) c.new-sums.result.items c.new-sums.ensures.items;
}

pub loop-preempt-preserved : goal.loop-preempt-preserved
loop-preempt-preserved c = elim c.if-has_number.branch [
  | then-has_number+in_ok-push w ↦
      let has = is_number c.preempts.result.now c.args.config.now.preempts c.loop-preempt.preempt c.has_number.result _ c.has_number.ensures c.preempts.ensures.value w.if-has_number.true in
      record {
        events = each_more (has_number c.args.config.now.preempts) (HasEvents c.args.events.now) c.loop-preempt.preempt c.loop-preempt.sums.items c.if-has_number.sums.items w.preempt_sum.result has (events_at c.args.events.now c.preempt_table-table.result c.loop-preempt.preempt w.preempt_sum.result c.preempt_table-table.ensures c.loop-preempt-test.true (rw w.from.ensures at w.preempt_sum.ensures.events)) (ap (λ v. v.items) w.sums-is ∙ w.in_ok-push.ensures.items) c.loop-preempt.invariant.events;
        states = λ log first is. each_more (has_number c.args.config.now.preempts) (HasStates (MetBy log) first c.args.config.now) c.loop-preempt.preempt c.loop-preempt.sums.items c.if-has_number.sums.items w.preempt_sum.result has (w.preempt_sum.ensures.states log first is) (ap (λ v. v.items) w.sums-is ∙ w.in_ok-push.ensures.items) (c.loop-preempt.invariant.states log first is);
      }
  | else-has_number w ↦
      let none = is_number c.preempts.result.now c.args.config.now.preempts c.loop-preempt.preempt c.has_number.result _ c.has_number.ensures c.preempts.ensures.value w.if-has_number.false in
      record {
        events = each_passed (has_number c.args.config.now.preempts) (HasEvents c.args.events.now) c.loop-preempt.preempt c.loop-preempt.sums.items c.if-has_number.sums.items none (ap (λ v. v.items) w.sums-is) c.loop-preempt.invariant.events;
        states = λ log first is. each_passed (has_number c.args.config.now.preempts) (HasStates (MetBy log) first c.args.config.now) c.loop-preempt.preempt c.loop-preempt.sums.items c.if-has_number.sums.items none (ap (λ v. v.items) w.sums-is) (c.loop-preempt.invariant.states log first is);
      }
]
