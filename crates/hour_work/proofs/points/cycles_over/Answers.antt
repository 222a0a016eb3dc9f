use Rattle.std.proofs.Common.{◌≡◌, ◌∙◌, List, ap, subst, sym}
use Rattle.std.proofs.lemmas.Result.{IfOk-weaker}
use Rattle.sig_base.specs.declared.values.Row.{Row}
use Rattle.hour_store.specs.Store.{Store, is_known}
use Rattle.hour_sweep.specs.Sums.{own}
use Rattle.signal_log.specs.Points.{HasHour}
use Rattle.service_cut.specs.declared.items.Cycle.{Cycle}
use Rattle.service_cut.specs.Cut.{cycles_from}
use Rattle.service_cut.specs.Parts.{IsCarry as IsCut}
use Rattle.hour_work.specs.Points.{Carried, IsCarryAt}
use Rattle.hour_work.specs.Rows.{earlier_rows}
use Rattle.hour_work.specs.Measures.{cycles_in}
use Rattle.hour_work.proofs.MeasureLaws.{hour_is, own_known}
use Rattle.hour_work.proofs.points.cycles_over.Goals as goal

pub returns : goal.returns
returns c =
    let cfg = c.args.config.now in
    let phase = c.args.phase in
    let hour = c.args.place.now.hour in
    let rows = c.args.place.now.rows in
    let blanks = c.args.place.now.blanks in
    let ss = c.args.place.now.stretches in
    let cut = c.stretches-parts.ensures.opened.cut in
    let fit = c.stretches-parts.ensures.opened.are_rows in
    let law = rw (c.phases.ensures.value, c.stretches-parts.ensures.value, c.rows.ensures.value) at c.in_ok-cuts.ensures.cut in
    let same = c.in_ok-carry.ensures ∙ ap (λ (v : Carried). v.cuts) c.before-2.view_is in
    let made = rw c.cycles.ensures at c.own_cycles.ensures in
    IfOk-weaker c.own_cycles.result
    (λ v. v.items ≡ own (λ (x : Cycle). x.phase) phase c.in_ok-cuts.cuts.cycles)
    (λ v. (s : Store) → HasHour s hour rows blanks → IsCarryAt cfg s hour c.args.before.now → v.items ≡ own (λ (x : Cycle). x.phase) phase (cycles_in cfg s hour))
    (λ v e s has is.
    let known = is_known s in
    let before = earlier_rows s hour in
    let cuts = law known before hour (hour_is s hour rows blanks ss has fit cut) (subst (λ ps. IsCut known cfg.phases before hour ps) (sym same) is.cuts) in
    e ∙ ap (λ (zs : List Cycle). own (λ (x : Cycle). x.phase) phase zs) (cuts.cycles_are ∙ ap (λ (rs : List Row). cycles_from known cfg.phases before rs) (own_known s hour rows has.held)))
    made
