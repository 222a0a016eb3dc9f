use Rattle.std.proofs.Common.{◌≡◌, ◌∙◌, ◌+◌, ◌-◌, ap, arith, get_or, length, refl, rules, subst, sym}
use Rattle.hour_work.specs.Points.{Carried}
use Rattle.signal_log.specs.Log.{log_of}
use Rattle.signal_log.specs.Points.{ArePastsAt}
use Rattle.session.specs.Links.{States, StatesLead}
use Rattle.session.proofs.GrowLaws.{grow_on}
use Rattle.session.proofs.OpenLaws.{opened_across, opened_as}
use Rattle.session.proofs.StatesLaws.{carries_to, first_states}
use Rattle.session.proofs.renew.ways_of.Goals as goal

pub returns-in_err-futures-clause-grow : goal.returns-in_err-futures-clause-grow
returns-in_err-futures-clause-grow g c = grow_on _ _ _ c.go_forward.ensures.grow c.go_back.ensures.grow

pub returns-clause-grow : goal.returns-clause-grow
returns-clause-grow g c = grow_on _ _ _ c.go_forward.ensures.grow c.go_back.ensures.grow

pub returns-clause-opens : goal.returns-clause-opens
returns-clause-opens g c =
    let forth = c.in_ok-states.ensures.states in
    let back = c.in_ok-futures.ensures.futures in
    let some = forth.some in
    let low = back.low in
    let order = c.requires.order in
    let size = c.len.ensures in
    let from : (c.args.touched.now.last + 1) - length c.in_ok-futures.futures.items ≡ (c.args.touched.now.last + 1) - c.len.result = omega arith in
    opened_as _ _ _ _ _ _ _ _ from refl (opened_across _ _ _ _ _ _ _ (omega arith) (omega arith) (omega arith) c.in_ok-states.ensures.opens c.in_ok-futures.ensures.opens)

pub go_back-requires-clause-gone : goal.go_back-requires-clause-gone
go_back-requires-clause-gone g c =
    let cfg = c.args.config.now in
    let s = c.args.store.now in
    let first = c.args.touched.now.first in
    let last = c.args.touched.now.last in
    let kept = c.args.worked.now.carries.items in
    let d = c.index.result.now in
    let order = c.requires.order in
    let within = c.requires.within in
    let own = carries_to cfg s first last kept c.go_forward.ensures.store order within c.requires.forth first d (omega arith) in
    let before : c.pasts-before.result.now ≡ (get_or kept first d).pasts = c.pasts-before.ensures ∙ ap (λ (v : Carried). v.pasts) c.index.ensures in
    let new = rw c.deref.ensures.value at c.in_ok-states.ensures.states in
    let e = c.index-2.result.now in
    let leads = subst (λ (v : States). StatesLead cfg s first (get_or kept first d).pasts v) (sym c.index-2.ensures) (first_states cfg s first last kept c.in_ok-states.field-0.states.items d e order within c.requires.forth new) in
    c.gone_over.ensures cfg s first (search rules) (subst (λ (v : States). ArePastsAt (log_of cfg.specs s) first v) (sym before) own.pasts) (subst (λ (v : States). StatesLead cfg s first v c.index-2.result.now) (sym before) leads)
