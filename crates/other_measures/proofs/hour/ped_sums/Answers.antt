use Rattle.std.proofs.Common.{ap, ◌∙◌}
use Rattle.sig_base.specs.Numbers.{has_number}
use Rattle.other_measures.specs.Hours.{HasDelays}
use Rattle.other_measures.specs.States.{HasDetector, MetBy}
use Rattle.other_measures.proofs.Tables.{each_none, each_more, each_passed, is_number}
use Rattle.other_measures.proofs.Hours.{delays_at}
use Rattle.other_measures.proofs.hour.ped_sums.Goals as goal
use Rattle.other_measures.proofs.hour.ped_sums.Goals.{then-has_number+in_ok-push, else-has_number}

pub loop-ped-init : goal.loop-ped-init
loop-ped-init c = record {
  delays = each_none (has_number c.args.config.now.peds) (HasDelays c.args.delays.now) c.new-sums.result.items c.new-sums.ensures.items;
  states = λ log first is. each_none (has_number c.args.config.now.peds) (HasDetector (MetBy log) first c.args.config.now) c.new-sums.result.items c.new-sums.ensures.items;
}

pub loop-ped-preserved : goal.loop-ped-preserved
loop-ped-preserved c = elim c.if-has_number.branch [
  | then-has_number+in_ok-push w ↦
      let has = is_number c.peds.result.now c.args.config.now.peds c.loop-ped.ped c.has_number.result _ c.has_number.ensures c.peds.ensures.value w.if-has_number.true in
      record {
        delays = each_more (has_number c.args.config.now.peds) (HasDelays c.args.delays.now) c.loop-ped.ped c.loop-ped.sums.items c.if-has_number.sums.items w.ped_sum.result has (delays_at c.args.delays.now c.ped_table-table.result c.loop-ped.ped w.ped_sum.result c.ped_table-table.ensures c.loop-ped-test.true (rw w.from.ensures at w.ped_sum.ensures.delays)) (ap (λ v. v.items) w.sums-is ∙ w.in_ok-push.ensures.items) c.loop-ped.invariant.delays;
        states = λ log first is. each_more (has_number c.args.config.now.peds) (HasDetector (MetBy log) first c.args.config.now) c.loop-ped.ped c.loop-ped.sums.items c.if-has_number.sums.items w.ped_sum.result has (w.ped_sum.ensures.detector log first is) (ap (λ v. v.items) w.sums-is ∙ w.in_ok-push.ensures.items) (c.loop-ped.invariant.states log first is);
      }
  | else-has_number w ↦
      let none = is_number c.peds.result.now c.args.config.now.peds c.loop-ped.ped c.has_number.result _ c.has_number.ensures c.peds.ensures.value w.if-has_number.false in
      record {
        delays = each_passed (has_number c.args.config.now.peds) (HasDelays c.args.delays.now) c.loop-ped.ped c.loop-ped.sums.items c.if-has_number.sums.items none (ap (λ v. v.items) w.sums-is) c.loop-ped.invariant.delays;
        states = λ log first is. each_passed (has_number c.args.config.now.peds) (HasDetector (MetBy log) first c.args.config.now) c.loop-ped.ped c.loop-ped.sums.items c.if-has_number.sums.items none (ap (λ v. v.items) w.sums-is) (c.loop-ped.invariant.states log first is);
      }
]
