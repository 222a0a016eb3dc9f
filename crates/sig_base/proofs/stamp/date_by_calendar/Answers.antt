use Rattle.std.proofs.Common.{arith, to_z-of_z, FitsSigned, w64, ◌≡◌}
use Rattle.jiff_core.specs.Calendar.{days_from_civil}
use Rattle.sig_base.proofs.Years.{year-cast}
use Rattle.sig_base.proofs.stamp.date_by_calendar.Goals as goal

pub overflow_cast-result : goal.overflow_cast-result
overflow_cast-result c =
    let d = c.in-Ok.date in
    let fits : FitsSigned w64 c.args.day = c.ranges.day in
    let e : days_from_civil d.year d.month d.day ≡ c.args.day = simp to_z-of_z at c.in-Ok.ensures.value in
    let (n, back, same, small) = year-cast d.year d.month d.day c.args.day (d.year_in, d.month_in, d.day_in) e c.requires.0 in
    rw back (tt, omega arith)

pub returns-clause-day : goal.returns-clause-day
returns-clause-day c =
    let d = c.in-Ok.date in
    let fits : FitsSigned w64 c.args.day = c.ranges.day in
    let e : days_from_civil d.year d.month d.day ≡ c.args.day = simp to_z-of_z at c.in-Ok.ensures.value in
    let (n, back, same, small) = year-cast d.year d.month d.day c.args.day (d.year_in, d.month_in, d.day_in) e c.requires.0 in
    rw (back, ← same) e
