use Rattle.std.proofs.Common.{◌∙◌, ◌+◌, ◌≤◌, List, ap, arith, length}
use Rattle.hour_work.specs.declared.numbers.Partial.{Partial}
use Rattle.hour_work.specs.Numbers.{patched}
use Rattle.hour_work.proofs.PatchLaws.{patched-below}
use Rattle.session.proofs.GrowLaws.{grow_on}
use Rattle.session.proofs.OpenLaws.{opened_join, opened_onto}
use Rattle.session.proofs.RenewLaws.{parts_join, parts_same, renewed, shapes_new}
use Rattle.session.proofs.StatesLaws.{carries_to, history_new}
use Rattle.session.proofs.renew.work_out.Goals as goal

pub returns-in_err-new-clause-grow : goal.returns-in_err-new-clause-grow
returns-in_err-new-clause-grow g c = grow_on _ _ _ c.ways_of.ensures.grow c.new_parts.ensures.grow

pub returns-in_err-work-clause-grow : goal.returns-in_err-work-clause-grow
returns-in_err-work-clause-grow g c = grow_on _ _ _ (grow_on _ _ _ c.ways_of.ensures.grow c.new_parts.ensures.grow) c.new_work.ensures.grow

pub returns-in_err-parts-clause-grow : goal.returns-in_err-parts-clause-grow
returns-in_err-parts-clause-grow g c = grow_on _ _ _ (grow_on _ _ _ c.ways_of.ensures.grow c.new_parts.ensures.grow) c.new_work.ensures.grow

pub returns-in_err-sums-clause-grow : goal.returns-in_err-sums-clause-grow
returns-in_err-sums-clause-grow g c = grow_on _ _ _ (grow_on _ _ _ c.ways_of.ensures.grow c.new_parts.ensures.grow) c.new_work.ensures.grow

pub returns-clause-grow : goal.returns-clause-grow
returns-clause-grow g c = grow_on _ _ _ (grow_on _ _ _ c.ways_of.ensures.grow c.new_parts.ensures.grow) c.new_work.ensures.grow

pub returns-in_err-marks-clause-grow : goal.returns-in_err-marks-clause-grow
returns-in_err-marks-clause-grow g c = grow_on _ _ _ (grow_on _ _ _ c.ways_of.ensures.grow c.new_parts.ensures.grow) c.new_work.ensures.grow

pub new_parts-requires-clause-shape : goal.new_parts-requires-clause-shape
new_parts-requires-clause-shape g c =
    let w = c.in_ok-ways.ways in
    rw c.in_ok-ways.ensures.first (shapes_new c.args.config.now c.args.store.now c.args.touched.now.first c.args.touched.now.last c.args.worked.now.waiting.items c.args.worked.now.carries.items c.args.worked.now.futures.items w.from w.futures.items c.args.worked.now.report c.ways_of.ensures.store c.requires.kept c.in_ok-ways.ensures.futures)

pub new_parts-requires-clause-forth : goal.new_parts-requires-clause-forth
new_parts-requires-clause-forth g c =
    let but = c.requires.kept in
    rw c.in_ok-ways.ensures.first (carries_to c.args.config.now c.args.store.now c.args.touched.now.first c.args.touched.now.last c.args.worked.now.carries.items c.ways_of.ensures.store but.order but.within but.forth)

pub new_parts-requires-clause-history : goal.new_parts-requires-clause-history
new_parts-requires-clause-history g c =
    history_new c.args.config.now c.args.store.now c.args.touched.now.first c.args.touched.now.last c.args.worked.now.carries.items c.in_ok-ways.ways.states.items c.requires.sound c.ways_of.ensures.store c.requires.kept.forth c.in_ok-ways.ensures.states

pub new_work-requires-clause-history : goal.new_work-requires-clause-history
new_work-requires-clause-history g c =
    history_new c.args.config.now c.args.store.now c.args.touched.now.first c.args.touched.now.last c.args.worked.now.carries.items c.in_ok-ways.ways.states.items c.requires.sound c.ways_of.ensures.store c.requires.kept.forth c.in_ok-ways.ensures.states

pub new_work-requires-clause-kept : goal.new_work-requires-clause-kept
new_work-requires-clause-kept g c = rw (c.in_ok-ways.ensures.first, c.in_ok-ways.ensures.last) c.requires.kept

pub new_work-requires-clause-states : goal.new_work-requires-clause-states
new_work-requires-clause-states g c = rw (c.in_ok-ways.ensures.first, c.in_ok-ways.ensures.last) c.in_ok-ways.ensures.states

pub new_work-requires-clause-futures : goal.new_work-requires-clause-futures
new_work-requires-clause-futures g c = rw (c.in_ok-ways.ensures.first, c.in_ok-ways.ensures.last) c.in_ok-ways.ensures.futures

pub returns-clause-history : goal.returns-clause-history
returns-clause-history g c =
    history_new c.args.config.now c.args.store.now c.args.touched.now.first c.args.touched.now.last c.args.worked.now.carries.items c.in_ok-ways.ways.states.items c.requires.sound c.ways_of.ensures.store c.requires.kept.forth c.in_ok-ways.ensures.states

pub returns-clause-carries : goal.returns-clause-carries
returns-clause-carries g c = rw (c.in_ok-ways.ensures.first, c.in_ok-ways.ensures.last) at c.in_ok-work.ensures.carries

pub returns-clause-futures : goal.returns-clause-futures
returns-clause-futures g c = rw (c.in_ok-work.ensures.from, c.in_ok-work.ensures.futures) c.in_ok-ways.ensures.futures

pub returns-clause-fresh : goal.returns-clause-fresh
returns-clause-fresh g c =
    let cfg = c.args.config.now in
    let s = c.args.store.now in
    let kept = c.args.worked.now in
    let first = c.args.touched.now.first in
    let w = c.in_ok-ways.ways in
    let new = c.in_ok-new in
    let start = new.new.start in
    let carries = c.in_ok-work.work.points.carries.items in
    let from_first = c.in_ok-ways.ensures.first in
    let high : start ≤ first = rw from_first at new.ensures.high in
    let x = rw (c.in_ok-ways.ensures.first, c.in_ok-ways.ensures.last) at c.in_ok-work.ensures.carries in
    let room = c.requires.kept.forth.size in
    let within = c.requires.kept.within in
    let order = c.requires.kept.order in
    let futures = patched kept.futures.items w.from w.futures.items in
    let early = parts_same cfg s kept.carries.items (patched kept.carries.items (first + 1) carries) futures start first new.new.parts.items (λ k d lt. patched-below kept.carries.items (first + 1) carries k d (omega arith) (omega arith)) (rw from_first at new.ensures.parts) in
    let late = rw from_first at c.in_ok-work.ensures.parts in
    let z = parts_join cfg s (patched kept.carries.items (first + 1) carries) futures start first (first + length carries) new.new.parts.items c.in_ok-work.work.parts.items c.in_ok-parts.parts.items c.in_ok-parts.ensures early late in
    let sums = rw c.deref.ensures.value at c.in_ok-sums.ensures in
    rw (c.in_ok-work.ensures.first, c.in_ok-work.ensures.from, c.in_ok-work.ensures.futures, from_first) (renewed cfg s first c.args.touched.now.last kept.waiting.items kept.carries.items carries kept.futures.items w.from start w.futures.items kept.report new.ensures.low high c.requires.kept x c.in_ok-ways.ensures.futures new.ensures.same (record { parts = c.in_ok-parts.parts; sums = c.in_ok-sums.sums }) c.in_ok-marks.marks.items (c.in_ok-marks.ensures.size ∙ ap (λ (xs : List Partial). length xs) c.as_slice.ensures.value) c.in_ok-marks.ensures.settled z sums)

pub returns-clause-opens : goal.returns-clause-opens
returns-clause-opens g c =
    let from_first = c.in_ok-ways.ensures.first in
    let high = rw from_first at c.in_ok-new.ensures.high in
    let both = opened_join _ _ _ _ _ _ high (omega arith) (rw from_first at c.in_ok-new.ensures.opens) (rw from_first at c.in_ok-work.ensures.opens) in
    let all = c.in_ok-work.ensures.all in
    rw (c.in_ok-work.ensures.first, c.in_ok-work.ensures.from, from_first) (opened_onto _ _ _ _ _ _ _ c.in_ok-new.ensures.low (omega arith) (omega arith) c.in_ok-ways.ensures.opens both)

pub new_parts-requires-clause-order : goal.new_parts-requires-clause-order
new_parts-requires-clause-order g c = rw c.in_ok-ways.ensures.first c.in_ok-ways.ensures.futures.low

pub new_parts-requires-clause-within : goal.new_parts-requires-clause-within
new_parts-requires-clause-within g c =
    let a = c.requires.kept.order in
    let b = c.requires.kept.within in
    rw c.in_ok-ways.ensures.first (omega arith)

pub new_parts-requires-clause-carry_room : goal.new_parts-requires-clause-carry_room
new_parts-requires-clause-carry_room g c =
    let a = c.requires.kept.order in
    let b = c.requires.kept.within in
    let size = c.requires.kept.forth.size in
    rw c.in_ok-ways.ensures.first (omega arith)

pub new_parts-requires-clause-future_room : goal.new_parts-requires-clause-future_room
new_parts-requires-clause-future_room g c =
    let new = c.in_ok-ways.ensures.futures.size in
    let b = c.requires.kept.within in
    let size = c.requires.kept.back.size in
    omega arith

pub new_parts-requires-clause-last : goal.new_parts-requires-clause-last
new_parts-requires-clause-last g c =
    let a = c.requires.kept.order in
    let b = c.requires.kept.within in
    let size = c.requires.kept.back.size in
    rw c.in_ok-ways.ensures.first (omega arith)

pub new_parts-requires-clause-back : goal.new_parts-requires-clause-back
new_parts-requires-clause-back g c = c.in_ok-ways.ensures.futures.back
