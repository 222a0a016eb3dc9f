use Rattle.std.proofs.Common.{◌∙◌, ap}
use Rattle.service_cut.specs.Parts.{IsCarry as IsCut}
use Rattle.hour_work.specs.Points.{Carried}
use Rattle.hour_work.proofs.MeasureLaws.{over_hour}
use Rattle.hour_work.proofs.SeenLaws.{cut_of}
use Rattle.hour_work.proofs.measures.cuts_over.Goals as goal

pub returns-clause-cut : goal.returns-clause-cut
returns-clause-cut c = λ s has is.
    let same = c.in_ok-cuts.ensures ∙ ap (λ (v : Carried). v.cuts) c.before-2.view_is in
    let law = rw (c.phases.ensures.value, c.rows-rows.ensures.value, c.stretches-parts.ensures.value) at c.in_ok-cut.ensures.cut in
    cut_of c.args.config.now s c.args.place.now c.args.before.now c.in_ok-cuts.cuts c.in_ok-cut.cut same c.phases.ensures.sound c.stretches-parts.ensures.opened law has is

pub returns-clause-cuts : goal.returns-clause-cuts
returns-clause-cuts c = λ s has is.
    let cfg = c.args.config.now in
    let o = c.args.place.now in
    let opened = c.stretches-parts.ensures.opened in
    let same = c.in_ok-cuts.ensures ∙ ap (λ (v : Carried). v.cuts) c.before-2.view_is in
    let law = rw (c.phases.ensures.value, c.rows-rows.ensures.value, c.stretches-parts.ensures.value) at c.in_ok-cut.ensures.carry in
    over_hour (λ known before k v. IsCut known cfg.phases before k v) s o.hour o.rows o.blanks o.stretches c.in_ok-cuts.cuts c.args.before.now.cuts c.cut_hour.new.carry same has opened.are_rows opened.cut law is.cuts

pub returns-clause-sound : goal.returns-clause-sound
returns-clause-sound c = c.phases.ensures.sound

pub returns-clause-opened : goal.returns-clause-opened
returns-clause-opened c = c.stretches-parts.ensures.opened
