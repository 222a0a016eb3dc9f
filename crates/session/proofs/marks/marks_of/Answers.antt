use Rattle.std.proofs.Common.{arith, length-append, subst, sym}
use Rattle.session.specs.Renewed.{IsUnchanged}
use Rattle.session.proofs.WaitLaws.{marks_more}
use Rattle.session.proofs.marks.marks_of.Goals as goal

pub loop-hour-init : goal.loop-hour-init
loop-hour-init c = record { size = omega arith; marks = λ i lt wait. absurd (omega arith) }

pub loop-hour-preserved : goal.loop-hour-preserved
loop-hour-preserved c =
    let kept = c.args.worked.now in
    let points = c.args.points.now in
    let touched = c.args.touched.now in
    let size = c.loop-hour.invariant.size in
    let Is = IsUnchanged touched.first touched.last touched.same.items kept.waiting.items kept.carries.items points.first points.carries.items kept.futures.items points.from points.futures.items in
    record {
      size = rw (c.in_ok-push.ensures.items, length-append) (omega arith);
      marks = marks_more Is points.from c.loop-hour.marks.items _ c.waits_then.result c.loop-hour.invariant.marks (λ no. subst Is (sym size) (c.waits_then.ensures no)) c.in_ok-push.ensures.items;
    }
