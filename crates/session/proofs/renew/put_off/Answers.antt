use Rattle.std.proofs.Common.{◌≡◌, ◌∙◌, ◌+◌, ◌-◌, ◌<◌, ap, arith, get_or, length, refl, rules, subst, sym}
use Rattle.std.proofs.lemmas.List.{get_or_default}
use Rattle.hour_work.specs.Points.{Carried}
use Rattle.signal_log.specs.Log.{log_of}
use Rattle.signal_log.specs.Points.{ArePastsAt}
use Rattle.session.specs.Links.{States, StatesLead}
use Rattle.session.proofs.GrowLaws.{grow_on}
use Rattle.session.proofs.OpenLaws.{opened_across, opened_as}
use Rattle.session.proofs.RenewLaws.{fit_after, renewed_later}
use Rattle.session.proofs.StatesLaws.{carries_to, first_carries, history_carries}
use Rattle.session.proofs.renew.put_off.Goals as goal

pub returns-in_err-futures-clause-grow : goal.returns-in_err-futures-clause-grow
returns-in_err-futures-clause-grow g c = grow_on _ _ _ c.go_across.ensures.grow c.go_back.ensures.grow

pub returns-clause-grow : goal.returns-clause-grow
returns-clause-grow g c = grow_on _ _ _ c.go_across.ensures.grow c.go_back.ensures.grow

pub returns-in_err-marks-clause-grow : goal.returns-in_err-marks-clause-grow
returns-in_err-marks-clause-grow g c = grow_on _ _ _ c.go_across.ensures.grow c.go_back.ensures.grow

pub marks_of-requires-clause-few : goal.marks_of-requires-clause-few
marks_of-requires-clause-few g c =
    let few = c.go_across.ensures.store.few in
    let within = c.in_ok-carries.ensures.carries.within in
    omega arith

pub marks_of-requires-clause-order : goal.marks_of-requires-clause-order
marks_of-requires-clause-order g c =
    let size = c.len.ensures in
    let low = c.in_ok-futures.ensures.futures.low in
    omega arith

pub marks_of-requires-clause-room : goal.marks_of-requires-clause-room
marks_of-requires-clause-room g c =
    let room = c.requires.kept.room in
    let within = c.in_ok-carries.ensures.carries.within in
    omega arith

pub marks_of-requires-clause-carry_room : goal.marks_of-requires-clause-carry_room
marks_of-requires-clause-carry_room g c =
    let size = c.requires.kept.forth.size in
    let within = c.in_ok-carries.ensures.carries.within in
    omega arith

pub marks_of-requires-clause-future_room : goal.marks_of-requires-clause-future_room
marks_of-requires-clause-future_room g c =
    let len = c.len.ensures in
    let new = c.in_ok-futures.ensures.futures.size in
    let b = c.requires.kept.within in
    let size = c.requires.kept.back.size in
    omega arith

pub marks_of-requires-clause-futures : goal.marks_of-requires-clause-futures
marks_of-requires-clause-futures g c =
    let size = c.requires.kept.back.size in
    let within = c.in_ok-carries.ensures.carries.within in
    omega arith

pub marks_of-requires-clause-shape : goal.marks_of-requires-clause-shape
marks_of-requires-clause-shape g c =
    let kept = c.args.worked.now in
    let size = c.len.ensures in
    let from : (c.args.touched.now.last + 1) - length c.in_ok-futures.futures.items ≡ (c.args.touched.now.last + 1) - c.len.result = omega arith in
    let new = rw (from, c.as_slice-kept.ensures.value) at c.in_ok-futures.ensures.futures in
    let across = rw c.deref.ensures.value at c.in_ok-carries.ensures.carries in
    fit_after c.args.config.now c.args.store.now c.args.touched.now.first c.args.touched.now.last kept.waiting.items kept.carries.items _ kept.futures.items _ c.in_ok-futures.futures.items kept.report c.go_across.ensures.store c.requires.kept across new

pub returns-clause-history : goal.returns-clause-history
returns-clause-history g c =
    let across = rw c.deref.ensures.value at c.in_ok-carries.ensures.carries in
    history_carries c.args.config.now c.args.store.now c.args.touched.now.first c.args.touched.now.last c.args.worked.now.carries.items _ c.requires.sound c.go_across.ensures.store across

pub returns-clause-futures : goal.returns-clause-futures
returns-clause-futures g c =
    let size = c.len.ensures in
    let from : (c.args.touched.now.last + 1) - length c.in_ok-futures.futures.items ≡ (c.args.touched.now.last + 1) - c.len.result = omega arith in
    rw (from, c.as_slice-kept.ensures.value) at c.in_ok-futures.ensures.futures

pub returns-clause-fresh : goal.returns-clause-fresh
returns-clause-fresh g c =
    let kept = c.args.worked.now in
    let size = c.len.ensures in
    let from : (c.args.touched.now.last + 1) - length c.in_ok-futures.futures.items ≡ (c.args.touched.now.last + 1) - c.len.result = omega arith in
    let new = rw (from, c.as_slice-kept.ensures.value) at c.in_ok-futures.ensures.futures in
    let across = rw c.deref.ensures.value at c.in_ok-carries.ensures.carries in
    renewed_later c.args.config.now c.args.store.now c.args.touched.now.first c.args.touched.now.last c.args.touched.now.same.items kept.waiting.items kept.carries.items _ kept.futures.items _ c.in_ok-futures.futures.items kept.report c.in_ok-marks.marks.items c.requires.kept c.requires.stays across new c.in_ok-marks.ensures.size c.in_ok-marks.ensures.marks

pub returns-clause-opens : goal.returns-clause-opens
returns-clause-opens g c =
    let forth = c.in_ok-carries.ensures.carries in
    let back = c.in_ok-futures.ensures.futures in
    let some = forth.some in
    let low = back.low in
    let order = c.requires.kept.order in
    let size = c.len.ensures in
    let from : (c.args.touched.now.last + 1) - length c.in_ok-futures.futures.items ≡ (c.args.touched.now.last + 1) - c.len.result = omega arith in
    opened_as _ _ _ _ _ _ _ _ from refl (opened_across _ _ _ _ _ _ _ (omega arith) (omega arith) (omega arith) c.in_ok-carries.ensures.opens c.in_ok-futures.ensures.opens)

pub go_back-requires-clause-gone : goal.go_back-requires-clause-gone
go_back-requires-clause-gone g c =
    let cfg = c.args.config.now in
    let s = c.args.store.now in
    let first = c.args.touched.now.first in
    let last = c.args.touched.now.last in
    let kept = c.args.worked.now.carries.items in
    let d = c.index.result.now in
    let order = c.requires.kept.order in
    let within = c.requires.kept.within in
    let own = carries_to cfg s first last kept c.go_across.ensures.store order within c.requires.kept.forth first d (omega arith) in
    let before : c.pasts-before.result.now ≡ (get_or kept first d).pasts = c.pasts-before.ensures ∙ ap (λ (v : Carried). v.pasts) c.index.ensures in
    let new = rw c.deref.ensures.value at c.in_ok-carries.ensures.carries in
    let x = c.index-2.result.now in
    let fresh = c.in_ok-carries.field-0.carries.items in
    let some : 0 < length fresh = (let more = new.some in omega arith) in
    let after : c.pasts.result.now ≡ (get_or fresh 0 d).pasts = c.pasts.ensures ∙ ap (λ (v : Carried). v.pasts) (c.index-2.ensures ∙ get_or_default fresh 0 x d some) in
    let leads = subst (λ (v : States). StatesLead cfg s first (get_or kept first d).pasts v) (sym after) (first_carries cfg s first last kept fresh d order within c.requires.kept.forth new) in
    c.gone_over.ensures cfg s first (search rules) (subst (λ (v : States). ArePastsAt (log_of cfg.specs s) first v) (sym before) own.pasts) (subst (λ (v : States). StatesLead cfg s first v c.pasts.result.now) (sym before) leads)
