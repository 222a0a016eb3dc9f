use Rattle.std.proofs.Common.{◌≡◌, ◌∙◌, ◌+◌, ◌<◌, arith, get_or, length, subst, sym}
use Rattle.std.proofs.lemmas.List.{get_or_default}
use Rattle.hour_store.specs.Store.{rows_at}
use Rattle.hour_work.specs.Points.{Carried}
use Rattle.session.specs.Links.{Leads}
use Rattle.session.proofs.forward.next_carry.Goals as goal

pub carry_after-requires-clause-was : goal.carry_after-requires-clause-was
carry_after-requires-clause-was g c = c.told_of-was.ensures c.args.config.now c.args.store.now c.requires.told

pub returns-then-same-clause-leads : goal.returns-then-same-clause-leads
returns-then-same-clause-leads g c =
    let hour = c.args.hour in
    let kept = c.args.told.now.kept.now in
    let d = c.index-told-place.result in
    let size = c.requires.room in
    let there = c.requires.in_store in
    let room : hour + 1 < length kept = omega arith in
    let Goes = Leads c.args.config.now hour (rows_at c.args.store.now hour) c.args.store.now.blanks in
    let at = c.requires.told (c.changes.ensures c.if-not-changes.true) d in
    let before : c.args.before.now ≡ get_or kept hour d = c.same.ensures.value.0 c.if-same.true in
    let after : c.in_ok-carry_stays.field-0.carry ≡ get_or kept (hour + 1) d = c.in_ok-carry_stays.ensures.carry ∙ get_or_default kept (hour + 1) _ d room in
    subst (λ (v : Carried). Goes c.args.before.now v) (sym after) (subst (λ (v : Carried). Goes v (get_or kept (hour + 1) d)) (sym before) at)
