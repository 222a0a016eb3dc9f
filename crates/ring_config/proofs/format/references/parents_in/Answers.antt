use Rattle.std.proofs.Common.{refl, []}
use Rattle.ring_config.specs.Values.{mask_of}
use Rattle.ring_config.proofs.ParentLaws.{parents_more, parents_refused, parents_done}
use Rattle.ring_config.proofs.format.references.parents_in.Goals as goal

pub loop-item-init : goal.loop-item-init
unfolding mask_of
loop-item-init c = ([], record { value = c.no_phases-parents.ensures; positive = tt }, refl, refl)

pub returns-in-None : goal.returns-in-None
returns-in-None c =
    rw (parents_refused c.args.phases.now c.args.items.now c.loop-item.item-index c.loop-item.parents c.item-item.result c.loop-item-test.true c.item-item.is c.in-None.ensures c.loop-item.invariant) refl

pub loop-item-preserved : goal.loop-item-preserved
loop-item-preserved c =
    parents_more c.args.phases.now c.args.items.now c.loop-item.item-index c.loop-item.parents c.item-item.result c.in-Some.more c.loop-item-test.true c.item-item.is c.in-Some.ensures c.loop-item.invariant

pub returns-then-are_few : goal.returns-then-are_few
returns-then-are_few c =
    let done = parents_done c.args.phases.now c.args.items.now c.loop-item.item-index c.loop-item.parents c.are_few.result c.loop-item-test.false c.loop-item.auto.item-index-end c.are_few.ensures c.loop-item.invariant in
    rw c.if-are_few.true at done

pub returns-else-are_few : goal.returns-else-are_few
returns-else-are_few c =
    let done = parents_done c.args.phases.now c.args.items.now c.loop-item.item-index c.loop-item.parents c.are_few.result c.loop-item-test.false c.loop-item.auto.item-index-end c.are_few.ensures c.loop-item.invariant in
    rw c.if-are_few.false at done
