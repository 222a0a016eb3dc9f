use Rattle.std.proofs.Common.{◌<◌, ◌∷◌, [], arith, length, length-append, subst, sym}
use Rattle.std.proofs.lemmas.List.{get_or_append_left}
use Rattle.hour_work.specs.Points.{Carried, IsCarryAt}
use Rattle.session.proofs.begin.start_with.Goals as goal

pub loop-init : goal.loop-init
loop-init c = record {
  size = rw (c.in_ok-push.ensures.items, c.new-carries.ensures.items) (omega arith);
  start = λ d r. rw (c.in_ok-push.ensures.items, c.new-carries.ensures.items) (c.in_ok-start.ensures.carry r);
}

pub loop-preserved : goal.loop-preserved
loop-preserved c =
    let n = c.loop.invariant.size in
    let some : 0 < length c.loop.carries.items = omega arith in
    record {
      size = rw (c.in_ok-push-2.ensures.items, length-append) (omega arith);
      start = λ d r. rw c.in_ok-push-2.ensures.items (subst (λ (v : Carried). IsCarryAt c.args.config.now r 0 v) (sym (get_or_append_left c.loop.carries.items (c.in_ok-nothing.field-0 ∷ []) d 0 some)) (c.loop.invariant.start d r));
    }
