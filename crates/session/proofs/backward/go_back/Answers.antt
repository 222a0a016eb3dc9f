use Rattle.std.proofs.Common.{◌≡◌, ◌+◌, ◌-◌, ◌<◌, arith, get_or, inl, inr, length, refl}
use Rattle.std.proofs.lemmas.List.{get_or_default}
use Rattle.session.proofs.BackLaws.{backs_told, other_after, other_more, other_on, other_start, returning_done, returning_here, returning_on, returning_same, returning_start}
use Rattle.session.proofs.OpenLaws.{grow_opened, opened_as, opened_before, opened_none}
use Rattle.session.proofs.backward.go_back.Goals as goal

pub loop-hour-init : goal.loop-hour-init
loop-hour-init g c =
    let p = returning_start c.args.config.now c.args.store.now c.args.told.now.touched.now.first c.args.told.now.touched.now.last c.args.told.now.kept.now c.new-fresh.result.items c.requires.store c.requires.order c.requires.within c.requires.kept c.new-fresh.ensures.items in
    record { returning = p; size = p.size; other = other_start c.args.told.now.touched.now.first c.args.told.now.touched.now.last c.args.told.now.kept.now c.new-fresh.result.items c.requires.order; opens = opened_none (c.args.told.now.touched.now.last + 1) c.args.reads.now }

pub previous_future-requires-clause-after : goal.previous_future-requires-clause-after
previous_future-requires-clause-after g c =
    let at = c.first_or-after.ensures in
    let fe : c.loop-hour.hour ≡ (c.loop-hour.hour - 1) + 1 = omega arith in
    returning_here c.args.config.now c.args.store.now c.args.told.now.touched.now.last c.args.told.now.kept.now c.loop-hour.fresh.items (c.loop-hour.hour - 1) c.loop-hour.hour c.first_or-after.result.now fe c.loop-hour.invariant.returning at

pub returns-in_err-next-clause-grow : goal.returns-in_err-next-clause-grow
returns-in_err-next-clause-grow g c =
    let size = c.loop-hour.invariant.size in
    let fe : c.loop-hour.hour ≡ (c.loop-hour.hour - 1) + 1 = omega arith in
    grow_opened _ _ _ _ _ _ (opened_before (c.loop-hour.hour - 1) (c.args.told.now.touched.now.last + 1) _ _ _ (let n = c.loop-hour.invariant.size in let some = c.loop-hour.auto.hour in omega arith) (opened_as _ _ _ _ _ _ _ _ fe refl c.loop-hour.invariant.opens) c.previous_future.ensures.once)

pub returns-in_err-push_front-clause-grow : goal.returns-in_err-push_front-clause-grow
returns-in_err-push_front-clause-grow g c =
    let size = c.loop-hour.invariant.size in
    let fe : c.loop-hour.hour ≡ (c.loop-hour.hour - 1) + 1 = omega arith in
    grow_opened _ _ _ _ _ _ (opened_before (c.loop-hour.hour - 1) (c.args.told.now.touched.now.last + 1) _ _ _ (let n = c.loop-hour.invariant.size in let some = c.loop-hour.auto.hour in omega arith) (opened_as _ _ _ _ _ _ _ _ fe refl c.loop-hour.invariant.opens) c.previous_future.ensures.once)

pub returns-then-done-clause-grow : goal.returns-then-done-clause-grow
returns-then-done-clause-grow g c =
    let size = c.loop-hour.invariant.size in
    let fe : c.loop-hour.hour ≡ (c.loop-hour.hour - 1) + 1 = omega arith in
    grow_opened _ _ _ _ _ _ (opened_before (c.loop-hour.hour - 1) (c.args.told.now.touched.now.last + 1) _ _ _ (let n = c.loop-hour.invariant.size in let some = c.loop-hour.auto.hour in omega arith) (opened_as _ _ _ _ _ _ _ _ fe refl c.loop-hour.invariant.opens) c.previous_future.ensures.once)

pub loop-hour-preserved : goal.loop-hour-preserved
loop-hour-preserved g c =
    let at = c.first_or-after.ensures in
    let fe : c.loop-hour.hour ≡ (c.loop-hour.hour - 1) + 1 = omega arith in
    let within = c.requires.within in
    let low = c.loop-hour.auto.hour in
    let lt : c.loop-hour.hour - 1 < length c.args.store.now.hours = omega arith in
    let p = returning_on c.args.config.now c.args.store.now c.args.told.now.touched.now.last c.args.told.now.kept.now c.loop-hour.fresh.items c.push_front.new.self.items (c.loop-hour.hour - 1) c.loop-hour.hour c.first_or-after.result.now c.in_ok-next.next fe
    c.requires.store c.requires.kept.size lt c.loop-hour.invariant.returning at c.in_ok-next.ensures.backs c.in_ok-push_front.ensures.items in
    let size = c.requires.kept.size in
    let there : c.loop-hour.hour - 1 < length c.args.told.now.kept.now = omega arith in
    let other = other_more c.args.told.now.touched.now.first c.args.told.now.kept.now c.loop-hour.fresh.items c.push_front.new.self.items (c.loop-hour.hour - 1) c.loop-hour.hour c.in_ok-next.next (get_or c.args.told.now.kept.now (c.loop-hour.hour - 1) c.index-told-place.result) fe there c.in_ok-push_front.ensures.items
    (λ d. get_or_default c.args.told.now.kept.now (c.loop-hour.hour - 1) c.index-told-place.result d there) (λ h. let z = c.if-done.ensures.1 h in cc) c.loop-hour.invariant.other in
    record { returning = p; size = p.size; other = other; opens = opened_before (c.loop-hour.hour - 1) (c.args.told.now.touched.now.last + 1) _ _ _ (let n = c.loop-hour.invariant.size in let some = c.loop-hour.auto.hour in omega arith) (opened_as _ _ _ _ _ _ _ _ fe refl c.loop-hour.invariant.opens) c.previous_future.ensures.once }

pub returns-then-done-clause-futures : goal.returns-then-done-clause-futures
returns-then-done-clause-futures g c =
    let at = c.first_or-after.ensures in
    let fe : c.loop-hour.hour ≡ (c.loop-hour.hour - 1) + 1 = omega arith in
    let within = c.requires.within in
    let low = c.loop-hour.auto.hour in
    let lt : c.loop-hour.hour - 1 < length c.args.store.now.hours = omega arith in
    let size = c.requires.kept.size in
    let there : c.loop-hour.hour - 1 < length c.args.told.now.kept.now = omega arith in
    let held = c.if-done.ensures.0 refl in
    let p = returning_on c.args.config.now c.args.store.now c.args.told.now.touched.now.last c.args.told.now.kept.now c.loop-hour.fresh.items c.push_front.new.self.items (c.loop-hour.hour - 1) c.loop-hour.hour c.first_or-after.result.now c.in_ok-next.next fe
    c.requires.store size lt c.loop-hour.invariant.returning at c.in_ok-next.ensures.backs c.in_ok-push_front.ensures.items in
    let n = p.size in
    rw c.into_vec.ensures.items (returning_done c.args.config.now c.args.store.now c.args.told.now.touched.now.first c.args.told.now.touched.now.last c.args.told.now.kept.now c.push_front.new.self.items (c.loop-hour.hour - 1) _ (omega arith) held.0 c.requires.order within c.requires.kept p
    (other_on c.args.told.now.touched.now.first c.args.told.now.kept.now c.loop-hour.fresh.items c.push_front.new.self.items (c.loop-hour.hour - 1) c.loop-hour.hour c.in_ok-next.next fe there c.in_ok-push_front.ensures.items c.loop-hour.invariant.other)
    (inr (returning_same c.args.told.now.kept.now c.loop-hour.fresh.items c.push_front.new.self.items (c.loop-hour.hour - 1) c.in_ok-next.next (get_or c.args.told.now.kept.now (c.loop-hour.hour - 1) c.index-told-place.result) there c.in_ok-push_front.ensures.items held.1
    (λ d. get_or_default c.args.told.now.kept.now (c.loop-hour.hour - 1) c.index-told-place.result d there))))

pub returns-clause-futures : goal.returns-clause-futures
returns-clause-futures g c =
    let end : c.loop-hour.hour ≡ 0 = omega arith in
    let n = c.loop-hour.invariant.size in
    let order = c.requires.order in
    rw c.into_vec-2.ensures.items (returning_done c.args.config.now c.args.store.now c.args.told.now.touched.now.first c.args.told.now.touched.now.last c.args.told.now.kept.now c.loop-hour.fresh.items c.loop-hour.hour _ (omega arith) (omega arith) order c.requires.within c.requires.kept c.loop-hour.invariant.returning
    (other_after c.args.told.now.touched.now.first c.args.told.now.kept.now c.loop-hour.hour c.loop-hour.fresh.items c.loop-hour.hour (c.loop-hour.hour + 1) (omega arith) c.loop-hour.invariant.other) (inl end))

pub returns-clause-grow : goal.returns-clause-grow
returns-clause-grow g c = grow_opened _ _ _ _ _ _ c.loop-hour.invariant.opens

pub returns-then-done-clause-opens : goal.returns-then-done-clause-opens
returns-then-done-clause-opens g c =
    let size = c.loop-hour.invariant.size in
    let fe : c.loop-hour.hour ≡ (c.loop-hour.hour - 1) + 1 = omega arith in
    let more : length c.push_front.new.self.items ≡ length c.loop-hour.fresh.items + 1 = rw c.in_ok-push_front.ensures.items (omega arith) in
    let from : c.loop-hour.hour - 1 ≡ (c.args.told.now.touched.now.last + 1) - length c.push_front.new.self.items = omega arith in
    rw c.into_vec.ensures.items (opened_as _ _ _ _ _ _ _ _ from refl (opened_before (c.loop-hour.hour - 1) (c.args.told.now.touched.now.last + 1) _ _ _ (let n = c.loop-hour.invariant.size in let some = c.loop-hour.auto.hour in omega arith) (opened_as _ _ _ _ _ _ _ _ fe refl c.loop-hour.invariant.opens) c.previous_future.ensures.once))

pub returns-clause-opens : goal.returns-clause-opens
returns-clause-opens g c =
    let size = c.loop-hour.invariant.size in
    let from : c.loop-hour.hour ≡ (c.args.told.now.touched.now.last + 1) - length c.loop-hour.fresh.items = omega arith in
    rw c.into_vec-2.ensures.items (opened_as _ _ _ _ _ _ _ _ from refl c.loop-hour.invariant.opens)

pub previous_future-requires-clause-told : goal.previous_future-requires-clause-told
previous_future-requires-clause-told g c =
    let within = c.requires.within in
    let low = c.loop-hour.auto.hour in
    let told = c.args.told.now in
    backs_told c.args.config.now c.args.store.now told.touched.now.first told.touched.now.last told.touched.now.same.items told.kept.now c.requires.kept c.requires.stays (c.loop-hour.hour - 1) (omega arith)
