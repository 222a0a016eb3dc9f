use Rattle.std.proofs.Common.{◌≡◌, ◌∙◌, ◌+◌, ◌<◌, ◌≤◌, arith, length, length-append, reverse, sym}
use Rattle.std.proofs.lemmas.List.{get_or_default, length-reverse, reverse-reverse}
use Rattle.hour_work.specs.Numbers.{patched}
use Rattle.hour_work.specs.Points.{Carried}
use Rattle.session.proofs.ForwardLaws.{going_here}
use Rattle.session.proofs.KeptLaws.{future_is}
use Rattle.session.proofs.OpenLaws.{grow_opened, opened_next, opened_none}
use Rattle.session.proofs.RenewLaws.{no_parts}
use Rattle.session.proofs.WorkLaws.{AreAllNew, all_new, parts_on, worked_end, worked_leads, worked_on, worked_settled, worked_start}
use Rattle.session.proofs.renew.new_work.Given.{Over}
use Rattle.session.proofs.renew.new_work.Goals as goal
use Rattle.session.proofs.renew.new_work.Goals.{else-loop-hour-test, then-loop-hour-test+in_ok-pasts+in_ok-work+in_ok-push+in_ok-push-2+then-done}

-- at the window's end, or where nothing changes
done : (g : Over) (c : goal.After-drop-states-2 g) → AreAllNew c.args.config.now c.args.store.now c.args.ways.first c.args.ways.last c.args.worked.now.carries.items c.args.ways.states.items (patched c.args.worked.now.futures.items c.args.ways.from c.args.ways.futures.items) c.loop-hour-test.carries.items c.loop-hour-test.parts.items c.args.reads.now c.loop-hour-test.reads
done g c =
    let cfg = c.args.config.now in
    let s = c.args.store.now in
    let w = c.args.ways in
    let kept = c.args.worked.now.carries.items in
    let futures = patched c.args.worked.now.futures.items w.from w.futures.items in
    let hour = c.loop-hour.hour in
    let but = c.requires.kept in
    let order = but.order in
    let within = but.within in
    let size = but.forth.size in
    let n = c.hours-hour-end.ensures.value in
    elim c.loop-hour-test.branch [
      | else-loop-hour-test o ↦
          let high = c.loop-hour.auto.hour-end (omega arith) in
          let end : c.loop-hour.hour ≡ length c.args.store.now.hours = omega arith in
          let are = worked_end cfg s w.first w.last kept w.states.items (reverse c.loop-hour.states.items) c.loop-hour.carries.items hour end within but.forth c.requires.states c.loop-hour.invariant.worked in
          rw (o.carries-is, o.parts-is, o.reads-is) (all_new cfg s w.first w.last kept w.states.items futures c.loop-hour.carries.items c.loop-hour.parts.items c.args.reads.now c.loop-hour.reads hour c.loop-hour.invariant.size are c.loop-hour.invariant.parts c.loop-hour.invariant.opens)
      | then-loop-hour-test+in_ok-pasts+in_ok-work+in_ok-push+in_ok-push-2+then-done o ↦
          let lt : c.loop-hour.hour < length c.args.store.now.hours = omega arith in
          let room : c.loop-hour.hour + 1 < length kept = omega arith in
          let before = rw (c.as_slice-kept.ensures.value, o.as_slice.ensures.value) at o.pick-before.ensures in
          let after = rw (c.as_slice-ahead.ensures.value, o.as_slice-in-loop-hour.ensures.value) at o.pick-after.ensures in
          let there = rw c.as_slice-kept.ensures.value at o.index-kept-place.is in
          let at = λ (d : Carried). there ∙ get_or_default kept (c.loop-hour.hour + 1) o.index-kept-place.result d room in
          let held = (rw o.as_slice-in-loop-hour-2.ensures.value at o.is_settled-done.ensures.value).0 o.if-done.true in
          let are = worked_settled cfg s w.first w.last kept w.states.items (reverse c.loop-hour.states.items) (reverse o.next_states.new.states.items) c.loop-hour.carries.items hour o.index-kept-place.result o.in_ok-pasts.pasts size lt at o.in_ok-pasts.ensures.value o.in_ok-pasts.ensures.rest c.loop-hour.invariant.worked
          o.push.new.self.items o.pick-before.result.now o.in_ok-work.work.carry c.hours-hour-end.ensures.store but.forth c.requires.states before o.in_ok-work.ensures.leads o.in_ok-push.ensures.items (length-reverse _ ∙ held.0) held.1 in
          let count = c.loop-hour.invariant.size in
          let to : w.first + length o.push.new.self.items ≡ c.loop-hour.hour + 1 = rw (o.in_ok-push.ensures.items, length-append) (omega arith) in
          let parts = parts_on cfg s w.first kept c.loop-hour.carries.items o.push.new.self.items futures hour c.loop-hour.parts.items o.push-in-loop-hour.new.self.items o.pick-before.result.now o.in_ok-work.work.carry o.pick-after.result.now o.in_ok-work.work.part
          count room o.in_ok-push.ensures.items c.loop-hour.invariant.parts before after o.in_ok-work.ensures.counts o.in_ok-work.ensures.small o.in_ok-push-2.ensures.items in
          rw (o.carries-is, o.parts-is, o.reads-is) (all_new cfg s w.first w.last kept w.states.items futures o.push.new.self.items o.push-in-loop-hour.new.self.items c.args.reads.now o.work_between.new.reads (c.loop-hour.hour + 1) to are parts
          (opened_next _ _ _ _ _ c.loop-hour.auto.hour c.loop-hour.invariant.opens o.work_between.ensures.once))
    ]

pub loop-hour-init : goal.loop-hour-init
loop-hour-init g c =
    let w = c.args.ways in
    let but = c.requires.kept in
    let p = worked_start c.args.config.now c.args.store.now w.first w.last c.args.worked.now.carries.items w.states.items c.new-carries.result.items c.hours-hour-end.ensures.store but.order but.within but.forth c.new-carries.ensures.items in
    record {
      worked = rw (c.reverse.ensures.items, reverse-reverse) p;
      size = p.going.size;
      parts = no_parts c.args.config.now c.args.store.now _ _ w.first c.new-parts.result.items c.new-parts.ensures.items;
      courses = c.requires.courses;
      opens = opened_none w.first c.args.reads.now;
    }

pub work_between-requires-clause-states : goal.work_between-requires-clause-states
work_between-requires-clause-states g c =
    let w = c.args.ways in
    let kept = c.args.worked.now.carries.items in
    let size = c.requires.kept.forth.size in
    let n = c.hours-hour-end.ensures.value in
    let lt : c.loop-hour.hour < length c.args.store.now.hours = omega arith in
    let room : c.loop-hour.hour + 1 < length kept = omega arith in
    let before = rw (c.as_slice-kept.ensures.value, c.as_slice.ensures.value) at c.pick-before.ensures in
    let there = rw c.as_slice-kept.ensures.value at c.index-kept-place.is in
    let at = λ (d : Carried). there ∙ get_or_default kept (c.loop-hour.hour + 1) c.index-kept-place.result d room in
    worked_leads c.args.config.now c.args.store.now w.first w.last kept w.states.items (reverse c.loop-hour.states.items) (reverse c.next_states.new.states.items) c.loop-hour.carries.items c.loop-hour.hour c.index-kept-place.result c.in_ok-pasts.pasts size lt at c.in_ok-pasts.ensures.value c.in_ok-pasts.ensures.rest c.loop-hour.invariant.worked
    c.pick-before.result.now before c.requires.states

pub work_between-requires-clause-before : goal.work_between-requires-clause-before
work_between-requires-clause-before g c =
    let before = rw (c.as_slice-kept.ensures.value, c.as_slice.ensures.value) at c.pick-before.ensures in
    going_here c.args.config.now c.args.store.now c.args.ways.first c.args.worked.now.carries.items c.loop-hour.carries.items c.loop-hour.hour c.pick-before.result.now c.loop-hour.invariant.worked.going before

pub work_between-requires-clause-after : goal.work_between-requires-clause-after
work_between-requires-clause-after g c =
    let w = c.args.ways in
    let after = rw (c.as_slice-ahead.ensures.value, c.as_slice-in-loop-hour.ensures.value) at c.pick-after.ensures in
    let n = c.hours-hour-end.ensures.value in
    let le : c.loop-hour.hour + 1 ≤ length c.args.store.now.hours = omega arith in
    future_is c.args.config.now c.args.store.now (patched c.args.worked.now.futures.items w.from w.futures.items) (c.loop-hour.hour + 1) c.pick-after.result.now c.hours-hour-end.ensures.store c.requires.futures.back le (after c.pick-after.result.now)

pub returns-in_err-pasts-clause-grow : goal.returns-in_err-pasts-clause-grow
returns-in_err-pasts-clause-grow g c = grow_opened _ _ _ _ _ _ c.loop-hour.invariant.opens

pub returns-in_err-work-clause-grow : goal.returns-in_err-work-clause-grow
returns-in_err-work-clause-grow g c = grow_opened _ _ _ _ _ _ (opened_next _ _ _ _ _ c.loop-hour.auto.hour c.loop-hour.invariant.opens c.work_between.ensures.once)

pub returns-in_err-push-clause-grow : goal.returns-in_err-push-clause-grow
returns-in_err-push-clause-grow g c = grow_opened _ _ _ _ _ _ (opened_next _ _ _ _ _ c.loop-hour.auto.hour c.loop-hour.invariant.opens c.work_between.ensures.once)

pub returns-in_err-push-2-clause-grow : goal.returns-in_err-push-2-clause-grow
returns-in_err-push-2-clause-grow g c = grow_opened _ _ _ _ _ _ (opened_next _ _ _ _ _ c.loop-hour.auto.hour c.loop-hour.invariant.opens c.work_between.ensures.once)

pub loop-hour-preserved : goal.loop-hour-preserved
loop-hour-preserved g c =
    let w = c.args.ways in
    let kept = c.args.worked.now.carries.items in
    let hour = c.loop-hour.hour in
    let size = c.requires.kept.forth.size in
    let n = c.hours-hour-end.ensures.value in
    let lt : c.loop-hour.hour < length c.args.store.now.hours = omega arith in
    let room : c.loop-hour.hour + 1 < length kept = omega arith in
    let before = rw (c.as_slice-kept.ensures.value, c.as_slice.ensures.value) at c.pick-before.ensures in
    let after = rw (c.as_slice-ahead.ensures.value, c.as_slice-in-loop-hour.ensures.value) at c.pick-after.ensures in
    let there = rw c.as_slice-kept.ensures.value at c.index-kept-place.is in
    let at = λ (d : Carried). there ∙ get_or_default kept (c.loop-hour.hour + 1) c.index-kept-place.result d room in
    let says = rw c.as_slice-in-loop-hour-2.ensures.value at c.is_settled-done.ensures.says in
    let p = worked_on c.args.config.now c.args.store.now w.first w.last kept w.states.items (reverse c.loop-hour.states.items) (reverse c.next_states.new.states.items) c.loop-hour.carries.items hour c.index-kept-place.result c.in_ok-pasts.pasts size lt at c.in_ok-pasts.ensures.value c.in_ok-pasts.ensures.rest c.loop-hour.invariant.worked
    c.push.new.self.items c.pick-before.result.now c.in_ok-work.work.carry c.hours-hour-end.ensures.store c.requires.states before c.in_ok-work.ensures.leads c.in_ok-work.ensures.pasts c.in_ok-push.ensures.items (λ h. let z = says.1 (sym (length-reverse _) ∙ h.0, h.1) in cc) in
    record {
      worked = p;
      size = p.going.size;
      parts = parts_on c.args.config.now c.args.store.now w.first kept c.loop-hour.carries.items c.push.new.self.items (patched c.args.worked.now.futures.items w.from w.futures.items) hour c.loop-hour.parts.items c.push-in-loop-hour.new.self.items c.pick-before.result.now c.in_ok-work.work.carry c.pick-after.result.now c.in_ok-work.work.part
          c.loop-hour.invariant.size room c.in_ok-push.ensures.items c.loop-hour.invariant.parts before after c.in_ok-work.ensures.counts c.in_ok-work.ensures.small c.in_ok-push-2.ensures.items;
      courses = c.own_courses-own.ensures.stay c.args.config.now c.args.store.now c.loop-hour.invariant.courses;
      opens = opened_next _ _ _ _ _ c.loop-hour.auto.hour c.loop-hour.invariant.opens c.work_between.ensures.once;
    }

pub returns-clause-carries : goal.returns-clause-carries
returns-clause-carries g c = (done g c).carries_new

pub returns-clause-parts : goal.returns-clause-parts
returns-clause-parts g c = (done g c).parts_new

pub returns-clause-all : goal.returns-clause-all
returns-clause-all g c = (done g c).all

pub returns-clause-opens : goal.returns-clause-opens
returns-clause-opens g c = (done g c).opens

pub returns-clause-grow : goal.returns-clause-grow
returns-clause-grow g c = grow_opened _ _ _ _ _ _ (done g c).opens
