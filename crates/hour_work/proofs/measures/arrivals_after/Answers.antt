use Rattle.std.proofs.Common.{◌∙◌, ap}
use Rattle.signal_log.specs.Points.{rows_or_none}
use Rattle.hour_work.specs.Points.{Carried}
use Rattle.hour_work.proofs.BarLaws.{opens_next}
use Rattle.hour_work.proofs.measures.arrivals_after.Goals as goal

pub returns : goal.returns
returns c = λ s is.
    let cfg = c.args.config.now in
    let o = c.args.place.now in
    let same = c.in_ok-carry.ensures ∙ ap (λ (v : Carried). v.arrivals) c.before-2.view_is in
    opens_next cfg s o.hour c.args.before.now (rows_or_none o.rows) o.stretches c.args.cut.now is c.in_ok-carry.carry c.arrivals_carried.new.carry same (rw (c.rows-rows.ensures.value, c.stretches-parts.ensures.value) at c.in_ok-arrivals_carried.ensures.carry)
