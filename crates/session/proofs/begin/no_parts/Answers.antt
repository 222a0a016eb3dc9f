use Rattle.std.proofs.Common.{arith, length-append}
use Rattle.hour_work.specs.Numbers.{FitHours}
use Rattle.session.proofs.BeginLaws.{all_more}
use Rattle.session.proofs.begin.no_parts.Goals as goal

pub loop-preserved : goal.loop-preserved
loop-preserved c = record {
  size = rw (c.in_ok-push.ensures.items, length-append) (let n = c.loop.invariant.size in omega arith);
  small = all_more (FitHours 1) c.loop.parts.items _ c.nothing.result c.loop.invariant.small c.nothing.ensures.small c.in_ok-push.ensures.items;
}
