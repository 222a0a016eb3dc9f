use Rattle.std.proofs.Common.{ap, subst, sym}
use Rattle.board.specs.Courses.{CourseLog}
use Rattle.board.specs.Stops.{AreBefore}
use Rattle.signal_log.specs.Points.{rows_or_none}
use Rattle.stop_bar.specs.All.{IsHourHeld}
use Rattle.hour_work.specs.Points.{Carried}
use Rattle.hour_work.proofs.stop_bars.detectors_over.Goals as goal

pub detectors_hour-requires-clause-before : goal.detectors_hour-requires-clause-before
detectors_hour-requires-clause-before c = subst (λ (v : Carried). AreBefore c.args.config.now.specs v.pasts) (sym c.before-2.view_is) c.requires.shape

pub detectors_hour-requires-clause-specs : goal.detectors_hour-requires-clause-specs
detectors_hour-requires-clause-specs c = ap (λ (l : CourseLog). l.specs) c.requires.courses

pub returns : goal.returns
returns c = λ s held.
    let o = c.args.place.now in
    let told = rw (c.requires.courses, c.hour.ensures.value) at c.in_ok-told.ensures in
    told s (subst (λ (x : Carried). IsHourHeld c.args.config.now s o.hour (rows_or_none o.rows) o.stretches x.pasts) (sym c.before-2.view_is) held)
