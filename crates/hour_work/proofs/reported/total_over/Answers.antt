use Rattle.std.proofs.Common.{arith}
use Rattle.hour_work.specs.Numbers.{patched}
use Rattle.hour_work.proofs.PatchLaws.{length-patched}
use Rattle.hour_work.proofs.BlockLaws.{over_add, over_end, over_step}
use Rattle.hour_work.proofs.reported.total_over.Goals as goal

pub loop-place-init : goal.loop-place-init
loop-place-init c = λ hours few small are. c.nothing-total.ensures.sums

pub add-requires : goal.add-requires
add-requires c =
    let (hours, few, small, are) = c.requires.blocks in
    let blocks = patched c.args.kept.now c.args.first c.args.fresh.now in
    let size = length-patched c.args.kept.now c.args.first c.args.fresh.now c.requires.room in
    let lt = c.loop-place-test.true in
    over_add hours blocks c.loop-place.place c.loop-place.total c.pick.result.now few small are (omega arith) (c.loop-place.invariant hours few small are) c.pick.ensures

pub loop-place-preserved : goal.loop-place-preserved
loop-place-preserved c = λ hours few small are.
    let blocks = patched c.args.kept.now c.args.first c.args.fresh.now in
    let size = length-patched c.args.kept.now c.args.first c.args.fresh.now c.requires.room in
    let lt = c.loop-place-test.true in
    over_step hours blocks c.loop-place.place c.loop-place.total c.pick.result.now c.add.new.total small are (omega arith) (c.loop-place.invariant hours few small are) c.pick.ensures c.in_ok-add.ensures

pub returns : goal.returns
returns c = λ hours few small are.
    let blocks = patched c.args.kept.now c.args.first c.args.fresh.now in
    let size = length-patched c.args.kept.now c.args.first c.args.fresh.now c.requires.room in
    let over = c.loop-place-test.false in
    over_end hours blocks c.loop-place.place c.loop-place.total are (omega arith) (c.loop-place.invariant hours few small are)
