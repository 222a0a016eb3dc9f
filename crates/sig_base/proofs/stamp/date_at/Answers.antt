use Rattle.std.proofs.Common.{◌≡◌, pos, to_z-of_z, FitsSigned, w64}
use Rattle.jiff_core.specs.Calendar.{days_from_civil}
use Rattle.sig_base.proofs.Dates.{date-found}
use Rattle.sig_base.proofs.stamp.date_at.Goals as goal

pub returns-clause-date : goal.returns-clause-date
returns-clause-date c =
    let d = c.date_by_calendar.result in
    let fits : FitsSigned w64 c.args.day = c.ranges.day in
    let e : days_from_civil (pos d.year) d.month d.day ≡ c.args.day = simp to_z-of_z at c.date_by_calendar.ensures.day in
    (c.date_by_calendar.ensures.civil, e)

pub returns-clause-value : goal.returns-clause-value
returns-clause-value c = date-found c.args.day c.date_by_calendar.result (returns-clause-date c)
