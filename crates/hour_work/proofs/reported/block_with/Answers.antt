use Rattle.std.proofs.Common.{◌*◌, arith}
use Rattle.hour_work.specs.Numbers.{FitHours, patched}
use Rattle.hour_work.proofs.PatchLaws.{all_patched, length-patched}
use Rattle.hour_work.proofs.BlockLaws.{block_add, block_end, block_start, block_step, hour_fits}
use Rattle.hour_work.proofs.reported.block_with.Goals as goal

pub loop-hour-init : goal.loop-hour-init
loop-hour-init c =
    let xs = patched c.args.hours.now c.args.from c.args.parts.now in
    record { from = omega arith; total = block_start xs (27 * c.args.place) c.nothing-total.result c.nothing-total.ensures.sums }

pub add-requires : goal.add-requires
add-requires c =
    let xs = patched c.args.hours.now c.args.from c.args.parts.now in
    let size = length-patched c.args.hours.now c.args.from c.args.parts.now c.requires.within in
    let few = c.requires.few in
    let lt = c.loop-hour-test.true in
    let small = all_patched (FitHours 1) c.args.hours.now c.args.from c.args.parts.now c.requires.small c.requires.new_small in
    let one = hour_fits xs c.loop-hour.hour c.pick.result.now small (omega arith) c.pick.ensures in
    block_add xs (27 * c.args.place) c.loop-hour.hour c.loop-hour.total c.pick.result.now (omega arith) c.loop-hour.invariant.from (omega arith) c.loop-hour.invariant.total one

pub loop-hour-preserved : goal.loop-hour-preserved
loop-hour-preserved c =
    let xs = patched c.args.hours.now c.args.from c.args.parts.now in
    let size = length-patched c.args.hours.now c.args.from c.args.parts.now c.requires.within in
    let lt = c.loop-hour-test.true in
    let from = c.loop-hour.invariant.from in
    let small = all_patched (FitHours 1) c.args.hours.now c.args.from c.args.parts.now c.requires.small c.requires.new_small in
    let one = hour_fits xs c.loop-hour.hour c.pick.result.now small (omega arith) c.pick.ensures in
    record { from = omega arith; total = block_step xs (27 * c.args.place) c.loop-hour.hour c.loop-hour.total c.pick.result.now c.add.new.total from (omega arith) c.loop-hour.invariant.total c.pick.ensures one c.in_ok-add.ensures }

pub returns : goal.returns
returns c =
    let xs = patched c.args.hours.now c.args.from c.args.parts.now in
    let size = length-patched c.args.hours.now c.args.from c.args.parts.now c.requires.within in
    let over = c.loop-hour-test.false in
    block_end c.args.place c.loop-hour.hour xs c.loop-hour.total c.loop-hour.invariant.from (omega arith) (search arith) c.loop-hour.invariant.total
