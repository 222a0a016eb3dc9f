use Rattle.std.proofs.Common.{arith, length-append}
use Rattle.session.proofs.WaitLaws.{settled_more}
use Rattle.session.proofs.marks.none_waiting.Goals as goal

pub loop-preserved : goal.loop-preserved
loop-preserved c = record {
  size = rw (c.in_ok-push.ensures.items, length-append) (let n = c.loop.invariant.size in omega arith);
  settled = settled_more c.loop.waiting.items _ c.loop.invariant.settled c.in_ok-push.ensures.items;
}
