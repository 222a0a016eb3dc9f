use Rattle.std.proofs.Common.{arith, length-append}
use Rattle.hour_work.specs.Numbers.{patched}
use Rattle.hour_work.proofs.BlockLaws.{blocks_push}
use Rattle.hour_work.proofs.reported.blocks_with.Goals as goal

pub loop-place-preserved : goal.loop-place-preserved
loop-place-preserved c =
    let xs = patched c.args.hours.now c.args.from c.args.parts.now in
    let size = c.loop-place.invariant.size in
    record {
      size = rw (c.in_ok-push.ensures.items, length-append) (omega arith);
      each = blocks_push xs c.args.first c.loop-place.place c.loop-place.blocks.items c.push.new.self.items c.in_ok-block_with.field-0 size c.loop-place.invariant.each c.in_ok-block_with.ensures c.in_ok-push.ensures.items;
    }
