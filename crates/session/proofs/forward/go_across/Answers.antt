use Rattle.std.proofs.Common.{◌≡◌, ◌∙◌, ◌+◌, ◌<◌, arith, inl, inr, length, length-append, refl, rules, sym}
use Rattle.std.proofs.lemmas.List.{get_or_default}
use Rattle.session.proofs.ForwardLaws.{going_done, going_here, going_on, going_same, going_start, leads_told, other_before, other_more, other_on, other_start}
use Rattle.session.proofs.OpenLaws.{grow_opened, opened_as, opened_next, opened_none, opens_to}
use Rattle.session.proofs.forward.go_across.Goals as goal

pub loop-hour-init : goal.loop-hour-init
loop-hour-init g c =
    let p = going_start c.args.config.now c.args.store.now c.args.touched.now.first c.args.touched.now.last c.args.kept.now c.new-fresh.result.items c.hours-hour-end.ensures.store c.requires.order c.requires.within c.requires.kept c.new-fresh.ensures.items in
    record { going = p; size = p.size; other = other_start c.args.touched.now.first c.args.touched.now.last c.args.kept.now c.new-fresh.result.items c.requires.order; courses = tt; opens = opened_none c.args.touched.now.first c.args.reads.now }

pub next_carry-requires-clause-before : goal.next_carry-requires-clause-before
next_carry-requires-clause-before g c =
    let at = rw c.as_slice.ensures.value at c.pick-before.ensures in
    going_here c.args.config.now c.args.store.now c.args.touched.now.first c.args.kept.now c.loop-hour.fresh.items c.loop-hour.hour c.pick-before.result.now c.loop-hour.invariant.going at

pub returns-in_err-next-clause-grow : goal.returns-in_err-next-clause-grow
returns-in_err-next-clause-grow g c = grow_opened _ _ _ _ _ _ (opened_next _ _ _ _ _ c.loop-hour.auto.hour c.loop-hour.invariant.opens c.next_carry.ensures.once)

pub returns-in_err-push-clause-grow : goal.returns-in_err-push-clause-grow
returns-in_err-push-clause-grow g c = grow_opened _ _ _ _ _ _ (opened_next _ _ _ _ _ c.loop-hour.auto.hour c.loop-hour.invariant.opens c.next_carry.ensures.once)

pub returns-then-done-clause-grow : goal.returns-then-done-clause-grow
returns-then-done-clause-grow g c = grow_opened _ _ _ _ _ _ (opened_next _ _ _ _ _ c.loop-hour.auto.hour c.loop-hour.invariant.opens c.next_carry.ensures.once)

pub loop-hour-preserved : goal.loop-hour-preserved
loop-hour-preserved g c =
    let at = rw c.as_slice.ensures.value at c.pick-before.ensures in
    let n = c.hours-hour-end.ensures.value in
    let lt : c.loop-hour.hour < length c.args.store.now.hours = omega arith in
    let p = going_on c.args.config.now c.args.store.now c.args.touched.now.first c.args.kept.now c.loop-hour.fresh.items c.push.new.self.items c.loop-hour.hour c.pick-before.result.now c.in_ok-next.next.carry
    c.hours-hour-end.ensures.store c.requires.kept.size lt c.loop-hour.invariant.going at c.in_ok-next.ensures.leads c.in_ok-push.ensures.items in
    let size = c.requires.kept.size in
    let there : c.loop-hour.hour + 1 < length c.args.kept.now = omega arith in
    let other = other_more c.args.touched.now.first c.args.touched.now.last c.args.kept.now c.loop-hour.fresh.items c.push.new.self.items c.loop-hour.hour c.in_ok-next.next.carry c.index-kept-place.result c.loop-hour.invariant.size there c.in_ok-push.ensures.items
    (λ d. c.index-kept-place.is ∙ get_or_default c.args.kept.now (c.loop-hour.hour + 1) c.index-kept-place.result d there) (λ h. let z = c.if-done.ensures.says.1 h in cc) c.loop-hour.invariant.other in
    record { going = p; size = p.size; other = other; courses = c.first_courses-courses.ensures c.args.config.now c.args.store.now c.loop-hour.invariant.courses c.in_ok-next.ensures.courses; opens = opened_next _ _ _ _ _ c.loop-hour.auto.hour c.loop-hour.invariant.opens c.next_carry.ensures.once }

pub returns-then-done-clause-carries : goal.returns-then-done-clause-carries
returns-then-done-clause-carries g c =
    let at = rw c.as_slice.ensures.value at c.pick-before.ensures in
    let n = c.hours-hour-end.ensures.value in
    let lt : c.loop-hour.hour < length c.args.store.now.hours = omega arith in
    let size = c.requires.kept.size in
    let there : c.loop-hour.hour + 1 < length c.args.kept.now = omega arith in
    let held = c.if-done.ensures.value.0 refl in
    let behind = held.0 in
    let p = going_on c.args.config.now c.args.store.now c.args.touched.now.first c.args.kept.now c.loop-hour.fresh.items c.push.new.self.items c.loop-hour.hour c.pick-before.result.now c.in_ok-next.next.carry
    c.hours-hour-end.ensures.store size lt c.loop-hour.invariant.going at c.in_ok-next.ensures.leads c.in_ok-push.ensures.items in
    going_done c.args.config.now c.args.store.now c.args.touched.now.first c.args.touched.now.last c.args.kept.now c.push.new.self.items (c.loop-hour.hour + 1) (omega arith) (omega arith) c.requires.kept p
    (other_on c.args.touched.now.first c.args.touched.now.last c.args.kept.now c.loop-hour.fresh.items c.push.new.self.items c.loop-hour.hour c.in_ok-next.next.carry c.loop-hour.invariant.size there c.in_ok-push.ensures.items c.loop-hour.invariant.other)
    (inr (going_same c.args.touched.now.first c.args.kept.now c.loop-hour.fresh.items c.push.new.self.items c.loop-hour.hour c.in_ok-next.next.carry c.index-kept-place.result c.loop-hour.invariant.size there c.in_ok-push.ensures.items held.1
    (λ d. c.index-kept-place.is ∙ get_or_default c.args.kept.now (c.loop-hour.hour + 1) c.index-kept-place.result d there)))

pub returns-clause-carries : goal.returns-clause-carries
returns-clause-carries g c =
    let n = c.hours-hour-end.ensures.value in
    let order = c.requires.order in
    let within = c.requires.within in
    let high = c.loop-hour.auto.hour-end (omega arith) in
    let end : c.loop-hour.hour ≡ length c.args.store.now.hours = omega arith in
    going_done c.args.config.now c.args.store.now c.args.touched.now.first c.args.touched.now.last c.args.kept.now c.loop-hour.fresh.items c.loop-hour.hour (omega arith) (omega arith) c.requires.kept c.loop-hour.invariant.going
    (other_before c.args.touched.now.first c.args.touched.now.last c.args.kept.now c.loop-hour.fresh.items c.loop-hour.hour (c.loop-hour.hour + 1) (omega arith) c.loop-hour.invariant.other) (inl end)

pub returns-clause-grow : goal.returns-clause-grow
returns-clause-grow g c = grow_opened _ _ _ _ _ _ c.loop-hour.invariant.opens

pub returns-in_err-next-clause-opens_to_row : goal.returns-in_err-next-clause-opens_to_row
returns-in_err-next-clause-opens_to_row g c = let to = opens_to _ _ _ _ _ c.in_err-next.ensures.row (opened_next _ _ _ _ _ c.loop-hour.auto.hour c.loop-hour.invariant.opens c.next_carry.ensures.once) in search (rules, to)

pub returns-then-done-clause-opens : goal.returns-then-done-clause-opens
returns-then-done-clause-opens g c =
    let size = c.loop-hour.invariant.size in
    let more : c.args.touched.now.first + length c.push.new.self.items ≡ c.loop-hour.hour + 1 = rw (c.in_ok-push.ensures.items, length-append) (omega arith) in
    opened_as _ _ _ _ _ _ _ _ refl (sym more) (opened_next _ _ _ _ _ c.loop-hour.auto.hour c.loop-hour.invariant.opens c.next_carry.ensures.once)

pub returns-clause-opens : goal.returns-clause-opens
returns-clause-opens g c = opened_as _ _ _ _ _ _ _ _ refl (sym c.loop-hour.invariant.size) c.loop-hour.invariant.opens

pub next_carry-requires-clause-told : goal.next_carry-requires-clause-told
next_carry-requires-clause-told g c =
    let n = c.hours-hour-end.ensures.value in
    leads_told c.args.config.now c.args.store.now c.args.touched.now.first c.args.touched.now.last c.args.touched.now.same.items c.args.kept.now c.requires.kept c.requires.stays c.loop-hour.hour (omega arith)
