use Rattle.std.proofs.Common.{◌≡◌, arith, length, length-append}
use Rattle.hour_store.specs.Store.{Store}
use Rattle.hour_work.specs.Points.{IsFutureAt}
use Rattle.session.specs.Links.{Ahead}
use Rattle.session.proofs.BeginLaws.{all_more}
use Rattle.session.proofs.begin.ends.Goals as goal

pub loop-preserved : goal.loop-preserved
loop-preserved c = record {
  size = rw (c.in_ok-push.ensures.items, length-append) (let n = c.loop.invariant.size in omega arith);
  all = all_more (λ (x : Ahead). (r : Store) → length r.hours ≡ c.args.config.now.window.hours → IsFutureAt c.args.config.now r (length r.hours) x) c.loop.futures.items _ c.in_ok-end.field-0 c.loop.invariant.all c.in_ok-end.ensures.future c.in_ok-push.ensures.items;
}
