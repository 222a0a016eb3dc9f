use Rattle.std.proofs.Common.{◌≡◌, ◌∙◌, ◌+◌, ◌<◌, ◌≤◌, arith, length, refl, subst, sym}
use Rattle.std.proofs.lemmas.List.{get_or_default}
use Rattle.hour_work.specs.Numbers.{patched}
use Rattle.hour_work.specs.Points.{Carried, IsCarryAt}
use Rattle.session.proofs.KeptLaws.{future_is}
use Rattle.session.proofs.OpenLaws.{grow_opened, opened_as, opened_next, opened_none}
use Rattle.session.proofs.RenewLaws.{no_parts, parts_more}
use Rattle.session.proofs.renew.new_parts.Goals as goal

pub loop-hour-init : goal.loop-hour-init
loop-hour-init g c = record {
  parts = no_parts c.args.config.now c.args.store.now _ _ c.start_of-start.result c.new-parts.result.items c.new-parts.ensures.items;
  opens = opened_none c.start_of-start.result c.args.reads.now;
}

pub part_between-requires-clause-before : goal.part_between-requires-clause-before
part_between-requires-clause-before g c =
    let high = c.start_of-start.ensures.high in
    let le : c.loop-hour.hour ≤ c.args.ways.now.first = omega arith in
    subst (λ (v : Carried). IsCarryAt c.args.config.now c.args.store.now c.loop-hour.hour v) (sym c.index-before.ensures) (c.requires.forth c.loop-hour.hour c.index-before.result.now le)

pub part_between-requires-clause-after : goal.part_between-requires-clause-after
part_between-requires-clause-after g c =
    let at = rw (c.as_slice.ensures.value, c.as_slice-in-loop-hour.ensures.value) at c.pick-after.ensures in
    let within = c.requires.within in
    let le : c.loop-hour.hour + 1 ≤ length c.args.store.now.hours = omega arith in
    future_is c.args.config.now c.args.store.now (patched c.args.worked.now.futures.items c.args.ways.now.from c.args.ways.now.futures.items) (c.loop-hour.hour + 1) c.pick-after.result.now c.requires.store c.requires.back le (at c.pick-after.result.now)

pub returns-in_err-part-clause-grow : goal.returns-in_err-part-clause-grow
returns-in_err-part-clause-grow g c = grow_opened _ _ _ _ _ _ (opened_next _ _ _ _ _ c.loop-hour.auto.hour c.loop-hour.invariant.opens c.part_between.ensures.once)

pub returns-in_err-push-clause-grow : goal.returns-in_err-push-clause-grow
returns-in_err-push-clause-grow g c = grow_opened _ _ _ _ _ _ (opened_next _ _ _ _ _ c.loop-hour.auto.hour c.loop-hour.invariant.opens c.part_between.ensures.once)

pub loop-hour-preserved : goal.loop-hour-preserved
loop-hour-preserved g c =
    let high = c.start_of-start.ensures.high in
    let lt : c.loop-hour.hour < length c.args.worked.now.carries.items = omega arith in
    let before = λ (d : Carried). c.index-before.ensures ∙ get_or_default c.args.worked.now.carries.items c.loop-hour.hour c.index-before.result.now d lt in
    let after = rw (c.as_slice.ensures.value, c.as_slice-in-loop-hour.ensures.value) at c.pick-after.ensures in
    record {
      parts = parts_more c.args.config.now c.args.store.now c.args.worked.now.carries.items (patched c.args.worked.now.futures.items c.args.ways.now.from c.args.ways.now.futures.items) c.start_of-start.result c.loop-hour.hour c.loop-hour.parts.items c.push.new.self.items c.index-before.result.now c.pick-after.result.now c.in_ok-part.part
          c.loop-hour.invariant.parts before after c.in_ok-part.ensures.counts c.in_ok-part.ensures.small c.in_ok-push.ensures.items;
      opens = opened_next _ _ _ _ _ c.loop-hour.auto.hour c.loop-hour.invariant.opens c.part_between.ensures.once;
    }

pub returns-clause-grow : goal.returns-clause-grow
returns-clause-grow g c = grow_opened _ _ _ _ _ _ c.loop-hour.invariant.opens

pub returns-clause-opens : goal.returns-clause-opens
returns-clause-opens g c =
    let high = c.start_of-start.ensures.high in
    let end : c.loop-hour.hour ≡ c.args.ways.now.first = omega arith in
    opened_as _ _ _ _ _ _ _ _ refl end c.loop-hour.invariant.opens

pub start_of-start-requires-clause-shape : goal.start_of-start-requires-clause-shape
start_of-start-requires-clause-shape g c = rw c.deref.ensures.value c.requires.shape
