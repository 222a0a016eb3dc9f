use Rattle.std.proofs.Common.{sym, arith}
use Rattle.stop_bar.proofs.Places.{looked}
use Rattle.split_measures.proofs.Approaches.{count_more, one_more}
use Rattle.split_measures.proofs.bars.approach_sums.Goals as goal

pub loop-place-preserved : goal.loop-place-preserved
loop-place-preserved c =
    let all = c.args.config.now.approaches in
    let a = c.approach_of-approach.result.now in
    let place = c.loop-place.place in
    let next = c.loop-place.next in
    let test = c.loop-place-test.true in
    let count = c.approach_count-place-end.ensures.value in
    let at = c.approach_of-approach.ensures.approach a in
    let inv = c.loop-place.invariant in
    let few = c.bar_count-next.ensures.few in
    let low = inv.low in
    record {
      count = rw c.bar_count-next.ensures.value (count_more all place a a next (omega arith) (sym at) inv.count);
      low = omega arith;
      done = λ log upto is over here. one_more log c.args.config.now c.args.hour upto is c.args.ended.now c.args.at.now over here place next a a c.approach_sum.result c.loop-place.sums.items c.push.new.self.items (omega arith) (sym at) inv.count c.approach_sum.ensures.none
          (λ b ws x e f g. c.approach_sum.ensures.some b ws x e
          (looked c.get.result c.args.ended.now next ws c.get.ensures.lookup.0 c.get.ensures.lookup.1 f)
          (looked c.get-in-loop-place.result c.args.at.now next x c.get-in-loop-place.ensures.lookup.0 c.get-in-loop-place.ensures.lookup.1 g))
          (inv.done log upto is over here) c.in_ok-push.ensures.items;
    }
