use Rattle.std.proofs.lemmas.List.{take_more}
use Rattle.reach.proofs.past.copy_sets.Goals as goal

pub loop-set-preserved : goal.loop-set-preserved
loop-set-preserved c =
    let more = take_more c.args.sets.now c.loop-set.set-index c.set-item.result c.loop-set-test.true in
    let items = c.in_ok-push.ensures.items in
    let next = c.in_ok-next.ensures in
    let here = c.set-item.is in
    let first = c.loop-set.invariant in
    cc
