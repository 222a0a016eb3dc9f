use Rattle.std.proofs.Common.{◌≡◌, ◌∙◌, ◌+◌, ap, get_or, subst, sym}
use Rattle.std.proofs.lemmas.List.{get_or_default}
use Rattle.hour_work.specs.Points.{Carried}
use Rattle.session.specs.Links.{States, StatesLead}
use Rattle.session.proofs.StatesLaws.{lead_states}
use Rattle.session.proofs.forward.told_of.Goals as goal

pub returns : goal.returns
returns c = λ cfg s told.
    let kept = c.args.told.now.kept.now in
    let d = c.index-told-place.result in
    let room = c.requires in
    let leads = lead_states cfg s kept c.args.hour d (told (c.changes.ensures c.if-changes.false)) in
    let after : c.pasts-2.result.now ≡ (get_or kept (c.args.hour + 1) d).pasts = c.pasts-2.ensures ∙ ap (λ (v : Carried). v.pasts) (sym (get_or_default kept (c.args.hour + 1) d c.index-told-place-2.result room)) in
    subst (λ (v : States). StatesLead cfg s c.args.hour v c.pasts-2.result.now) (sym c.pasts.ensures) (subst (λ (v : States). StatesLead cfg s c.args.hour (get_or kept c.args.hour d).pasts v) (sym after) leads)
