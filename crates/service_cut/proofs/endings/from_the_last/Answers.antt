use Rattle.std.proofs.Common.{◌-◌, length, arith, ◌∙◌, ap, ◌++◌, Option}
use Rattle.std.specs.Prelude.{option_to_list}
use Rattle.service_cut.specs.declared.items.Service.{Service}
use Rattle.service_cut.proofs.ToldRows.{lates_more, closed_more, lates_start, closed_start}
use Rattle.service_cut.proofs.endings.from_the_last.Goals as goal

pub loop-left-init : goal.loop-left-init
loop-left-init c = record {
  few = omega arith;
  lates = λ e. lates_start c.args.told.now (length c.args.lates.now) c.args.lates.now e;
  services = λ e. closed_start c.args.told.now (length c.args.lates.now) c.new-services.result.items c.new-services.ensures.items;
}

pub loop-left-preserved : goal.loop-left-preserved
loop-left-preserved c = record {
  few = let few = c.loop-left.invariant.few in omega arith;
  lates = λ e. lates_more c.args.told.now _ (length c.args.lates.now) (c.loop-left.left - 1) c.loop-left.left _ _ (let few = c.loop-left.invariant.few in omega (arith, c.loop-left-test.true)) (omega (arith, c.loop-left-test.true)) c.note_told.ensures (c.loop-left.invariant.lates e);
  services = λ e. closed_more c.args.told.now _ (length c.args.lates.now) (c.loop-left.left - 1) c.loop-left.left _ _ _ (let few = c.loop-left.invariant.few in omega (arith, c.loop-left-test.true)) (omega (arith, c.loop-left-test.true)) (c.loop-left.invariant.lates e) (c.in_ok-put.ensures ∙ ap (λ (o : Option Service). c.loop-left.services.items ++ option_to_list o) c.service_of.ensures) (c.loop-left.invariant.services e);
}
