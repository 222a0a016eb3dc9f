use Rattle.std.proofs.Common.{ap, subst, sym, ◌∙◌, List}
use Rattle.service_cut.specs.declared.items.OpenService.{OpenService}
use Rattle.stop_bar.specs.Crossing.{Crossing}
use Rattle.stop_bar.specs.Bars.{IsAtBar, open_with}
use Rattle.stop_bar.proofs.Hours.{green_none, green_on}
use Rattle.stop_bar.proofs.hour.open_next.Goals as goal

pub returns-in-Some : goal.returns-in-Some
returns-in-Some c = λ log i phases front rows has is at.
    let before : Crossing = record { green = c.before-2.inside.green; pending = c.before-2.inside.pending.items } in
    let here = subst (λ (x : Crossing). IsAtBar log i phases c.args.phase front c.args.hour x) (sym c.before-2.view_is) at in
    let found = ap (λ (ys : List OpenService). open_with c.args.phase ys) (sym c.open_services.ensures) ∙ (sym c.open_service_of.ensures ∙ c.in-Some.is) in
    green_on log i phases c.args.phase c.args.hour front rows c.args.cuts.now c.args.switched.now is before here has c.in-Some.service found c.open_after.result c.open_after.ensures.place.0 c.unwrap_or-to.result c.unwrap_or-to.ensures c.open_after.ensures.place.1 (λ can. c.open_after.ensures.tenths log i is.told can here.tenths)

pub returns-in-None : goal.returns-in-None
returns-in-None c = λ log i phases front rows has is at.
    let found = ap (λ (ys : List OpenService). open_with c.args.phase ys) (sym c.open_services.ensures) ∙ (sym c.open_service_of.ensures ∙ c.in-None.is) in
    green_none log i phases c.args.phase c.args.hour front rows c.args.cuts.now c.args.switched.now is c.args.before.now at has found
