use Rattle.std.proofs.Common.{ap, subst, sym, ◌∙◌, List}
use Rattle.service_cut.specs.declared.items.Service.{Service}
use Rattle.stop_bar.specs.Going.{of_phase}
use Rattle.stop_bar.specs.Crossing.{Crossing}
use Rattle.stop_bar.specs.Bars.{IsAtBar, without_ends}
use Rattle.stop_bar.proofs.Hours.{over_is}
use Rattle.stop_bar.proofs.hour.bar_hour.Goals as goal

pub returns : goal.returns
returns c = λ log i phases front rows has is at.
    let before : Crossing = record { green = c.before-2.inside.green; pending = c.before-2.inside.pending.items } in
    let here = subst (λ (x : Crossing). IsAtBar log i phases c.args.phase front c.args.hour x) (sym c.before-2.view_is) at in
    let own = c.in_ok-own.ensures ∙ ap (λ (ss : List Service). without_ends (of_phase c.args.phase ss)) c.services.ensures in
    let over = rw (c.deref.ensures.value, c.deref-2.ensures.value) at c.in_ok-over.ensures in
    over_is log i phases c.args.phase c.args.hour front rows c.args.cuts.now c.args.switched.now is before here c.in_ok-own.own.items own c.in_ok-over.over.ended.items c.in_ok-over.over.pending.items over.ended over.waiting over.numbers c.open_next-green.result (c.open_next-green.ensures log i phases front rows has is at)
