use Rattle.std.proofs.Common.{◌≡◌, ◌∙◌, ◌+◌, ◌<◌, arith, inl, inr, length, length-append, refl, rules, subst, sym}
use Rattle.std.proofs.lemmas.List.{get_or_default}
use Rattle.signal_log.specs.Log.{log_of}
use Rattle.signal_log.specs.Points.{ArePastsAt}
use Rattle.session.specs.Links.{States}
use Rattle.session.proofs.ForwardLaws.{leads_told}
use Rattle.session.proofs.OpenLaws.{grow_opened, opened_as, opened_next, opened_none, opens_to}
use Rattle.session.proofs.StatesLaws.{others_before, others_more, others_on, others_start, walked_at, walked_done, walked_on, walked_same, walked_start}
use Rattle.session.proofs.forward.go_forward.Goals as goal

pub loop-hour-init : goal.loop-hour-init
loop-hour-init g c =
    let p = walked_start c.args.config.now c.args.store.now c.args.touched.now.first c.args.touched.now.last c.args.kept.now c.new-fresh.result.items c.hours-hour-end.ensures.store c.requires.order c.requires.within c.requires.kept c.new-fresh.ensures.items in
    record { walked = p; size = p.size; others = others_start c.args.touched.now.first c.args.touched.now.last c.args.kept.now c.new-fresh.result.items c.requires.order; courses = tt; opens = opened_none c.args.touched.now.first c.args.reads.now }

pub next_states-requires-clause-before : goal.next_states-requires-clause-before
next_states-requires-clause-before g c =
    let size = c.requires.kept.size in
    let order = c.requires.order in
    let within = c.requires.within in
    let room : c.args.touched.now.first < length c.args.kept.now = omega arith in
    let last = rw c.as_slice.ensures.value at c.last_states-before.ensures in
    let at = walked_at c.args.config.now c.args.store.now c.args.touched.now.first c.args.kept.now c.loop-hour.fresh.items c.loop-hour.hour c.index-kept-first.result c.last_states-before.result.now c.loop-hour.invariant.walked room c.index-kept-first.is last in
    subst (λ (v : States). ArePastsAt (log_of c.args.config.now.specs c.args.store.now) c.loop-hour.hour v) (sym at) c.loop-hour.invariant.walked.here

pub returns-in_err-next-clause-grow : goal.returns-in_err-next-clause-grow
returns-in_err-next-clause-grow g c = grow_opened _ _ _ _ _ _ (opened_next _ _ _ _ _ c.loop-hour.auto.hour c.loop-hour.invariant.opens c.next_states.ensures.once)

pub returns-in_err-push-clause-grow : goal.returns-in_err-push-clause-grow
returns-in_err-push-clause-grow g c = grow_opened _ _ _ _ _ _ (opened_next _ _ _ _ _ c.loop-hour.auto.hour c.loop-hour.invariant.opens c.next_states.ensures.once)

pub returns-then-done-clause-grow : goal.returns-then-done-clause-grow
returns-then-done-clause-grow g c = grow_opened _ _ _ _ _ _ (opened_next _ _ _ _ _ c.loop-hour.auto.hour c.loop-hour.invariant.opens c.next_states.ensures.once)

pub loop-hour-preserved : goal.loop-hour-preserved
loop-hour-preserved g c =
    let n = c.hours-hour-end.ensures.value in
    let lt : c.loop-hour.hour < length c.args.store.now.hours = omega arith in
    let size = c.requires.kept.size in
    let order = c.requires.order in
    let within = c.requires.within in
    let room : c.args.touched.now.first < length c.args.kept.now = omega arith in
    let last = rw c.as_slice.ensures.value at c.last_states-before.ensures in
    let at = walked_at c.args.config.now c.args.store.now c.args.touched.now.first c.args.kept.now c.loop-hour.fresh.items c.loop-hour.hour c.index-kept-first.result c.last_states-before.result.now c.loop-hour.invariant.walked room c.index-kept-first.is last in
    let p = walked_on c.args.config.now c.args.store.now c.args.touched.now.first c.args.kept.now c.loop-hour.fresh.items c.push.new.self.items c.loop-hour.hour c.last_states-before.result.now c.in_ok-next.next.pasts size lt c.loop-hour.invariant.walked at c.in_ok-next.ensures.leads c.in_ok-next.ensures.pasts c.in_ok-push.ensures.items in
    let there : c.loop-hour.hour + 1 < length c.args.kept.now = omega arith in
    let others = others_more c.args.touched.now.first c.args.touched.now.last c.args.kept.now c.loop-hour.fresh.items c.push.new.self.items c.loop-hour.hour c.in_ok-next.next.pasts c.index-kept-hour.result c.loop-hour.invariant.size there c.in_ok-push.ensures.items
    (λ d. c.index-kept-hour.is ∙ get_or_default c.args.kept.now (c.loop-hour.hour + 1) c.index-kept-hour.result d there) (λ h. let z = c.if-done.ensures.states.1 h in cc) c.loop-hour.invariant.others in
    record { walked = p; size = p.size; others = others; courses = c.first_courses-courses.ensures c.args.config.now c.args.store.now c.loop-hour.invariant.courses c.in_ok-next.ensures.courses; opens = opened_next _ _ _ _ _ c.loop-hour.auto.hour c.loop-hour.invariant.opens c.next_states.ensures.once }

pub returns-then-done-clause-states : goal.returns-then-done-clause-states
returns-then-done-clause-states g c =
    let n = c.hours-hour-end.ensures.value in
    let lt : c.loop-hour.hour < length c.args.store.now.hours = omega arith in
    let size = c.requires.kept.size in
    let order = c.requires.order in
    let within = c.requires.within in
    let room : c.args.touched.now.first < length c.args.kept.now = omega arith in
    let last = rw c.as_slice.ensures.value at c.last_states-before.ensures in
    let at = walked_at c.args.config.now c.args.store.now c.args.touched.now.first c.args.kept.now c.loop-hour.fresh.items c.loop-hour.hour c.index-kept-first.result c.last_states-before.result.now c.loop-hour.invariant.walked room c.index-kept-first.is last in
    let there : c.loop-hour.hour + 1 < length c.args.kept.now = omega arith in
    let held = c.if-done.ensures.value.0 refl in
    let behind = held.0 in
    let p = walked_on c.args.config.now c.args.store.now c.args.touched.now.first c.args.kept.now c.loop-hour.fresh.items c.push.new.self.items c.loop-hour.hour c.last_states-before.result.now c.in_ok-next.next.pasts size lt c.loop-hour.invariant.walked at c.in_ok-next.ensures.leads c.in_ok-next.ensures.pasts c.in_ok-push.ensures.items in
    walked_done c.args.config.now c.args.store.now c.args.touched.now.first c.args.touched.now.last c.args.kept.now c.push.new.self.items (c.loop-hour.hour + 1) (omega arith) (omega arith) c.requires.kept p
    (others_on c.args.touched.now.first c.args.touched.now.last c.args.kept.now c.loop-hour.fresh.items c.push.new.self.items c.loop-hour.hour c.in_ok-next.next.pasts c.loop-hour.invariant.size there c.in_ok-push.ensures.items c.loop-hour.invariant.others)
    (inr (walked_same c.args.touched.now.first c.args.kept.now c.loop-hour.fresh.items c.push.new.self.items c.loop-hour.hour c.in_ok-next.next.pasts c.index-kept-hour.result c.loop-hour.invariant.size there c.in_ok-push.ensures.items held.1
    (λ d. c.index-kept-hour.is ∙ get_or_default c.args.kept.now (c.loop-hour.hour + 1) c.index-kept-hour.result d there)))

pub returns-clause-states : goal.returns-clause-states
returns-clause-states g c =
    let n = c.hours-hour-end.ensures.value in
    let order = c.requires.order in
    let within = c.requires.within in
    let high = c.loop-hour.auto.hour-end (omega arith) in
    let end : c.loop-hour.hour ≡ length c.args.store.now.hours = omega arith in
    walked_done c.args.config.now c.args.store.now c.args.touched.now.first c.args.touched.now.last c.args.kept.now c.loop-hour.fresh.items c.loop-hour.hour (omega arith) (omega arith) c.requires.kept c.loop-hour.invariant.walked
    (others_before c.args.touched.now.first c.args.touched.now.last c.args.kept.now c.loop-hour.fresh.items c.loop-hour.hour (c.loop-hour.hour + 1) (omega arith) c.loop-hour.invariant.others) (inl end)

pub returns-clause-grow : goal.returns-clause-grow
returns-clause-grow g c = grow_opened _ _ _ _ _ _ c.loop-hour.invariant.opens

pub returns-in_err-next-clause-opens_to_row : goal.returns-in_err-next-clause-opens_to_row
returns-in_err-next-clause-opens_to_row g c = let to = opens_to _ _ _ _ _ c.in_err-next.ensures.row (opened_next _ _ _ _ _ c.loop-hour.auto.hour c.loop-hour.invariant.opens c.next_states.ensures.once) in search (rules, to)

pub returns-then-done-clause-opens : goal.returns-then-done-clause-opens
returns-then-done-clause-opens g c =
    let size = c.loop-hour.invariant.size in
    let more : c.args.touched.now.first + length c.push.new.self.items ≡ c.loop-hour.hour + 1 = rw (c.in_ok-push.ensures.items, length-append) (omega arith) in
    opened_as _ _ _ _ _ _ _ _ refl (sym more) (opened_next _ _ _ _ _ c.loop-hour.auto.hour c.loop-hour.invariant.opens c.next_states.ensures.once)

pub returns-clause-opens : goal.returns-clause-opens
returns-clause-opens g c = opened_as _ _ _ _ _ _ _ _ refl (sym c.loop-hour.invariant.size) c.loop-hour.invariant.opens

pub next_states-requires-clause-told : goal.next_states-requires-clause-told
next_states-requires-clause-told g c =
    let n = c.hours-hour-end.ensures.value in
    leads_told c.args.config.now c.args.store.now c.args.touched.now.first c.args.touched.now.last c.args.touched.now.same.items c.args.kept.now c.requires.kept c.requires.stays c.loop-hour.hour (omega arith)
