use Rattle.std.proofs.Common.{◌∙◌, ap}
use Rattle.signal_log.specs.Points.{rows_or_none}
use Rattle.hour_work.specs.Points.{Carried}
use Rattle.hour_work.proofs.BarLaws.{crosses_told, held, phases_told, sums_told}
use Rattle.hour_work.proofs.stop_bars.splits_over.Goals as goal

pub returns-clause-phases : goal.returns-clause-phases
returns-clause-phases c = λ s is. phases_told c.args.config.now s c.args.place.now.hour c.args.before.now (rows_or_none c.args.place.now.rows) c.args.place.now.stretches c.args.cuts.now is c.in_ok-sums.sums.phases c.in_ok-sums.ensures.phases

pub returns-clause-verdicts : goal.returns-clause-verdicts
returns-clause-verdicts c = λ s some is.
    let cfg = c.args.config.now in
    let hour = c.args.place.now.hour in
    let before = c.args.before.now in
    let rows = rows_or_none c.args.place.now.rows in
    let ss = c.args.place.now.stretches in
    let cuts = c.args.cuts.now in
    let told = c.requires s (held cfg s hour before rows ss cuts is) in
    let same = c.in_ok-carry.ensures ∙ ap (λ (x : Carried). x.splits) c.before-2.view_is in
    sums_told cfg s hour before rows ss cuts is c.args.told.now c.in_ok-carry.carry c.in_ok-sums.sums.approaches told same some (rw c.hour.ensures.value at c.in_ok-sums.ensures.approaches)

pub returns-clause-carry : goal.returns-clause-carry
returns-clause-carry c = λ s is.
    let cfg = c.args.config.now in
    let hour = c.args.place.now.hour in
    let before = c.args.before.now in
    let rows = rows_or_none c.args.place.now.rows in
    let ss = c.args.place.now.stretches in
    let cuts = c.args.cuts.now in
    let told = c.requires s (held cfg s hour before rows ss cuts is) in
    let same = c.in_ok-carry.ensures ∙ ap (λ (x : Carried). x.splits) c.before-2.view_is in
    crosses_told cfg s hour before rows ss cuts is c.args.told.now c.in_ok-carry.carry c.splits_hour.new.carry told same (rw c.hour.ensures.value at c.in_ok-sums.ensures.carry)
