use Rattle.signal_log.specs.Log.{log_of}
use Rattle.signal_log.specs.Points.{ArePastsAt}
use Rattle.hour_work.specs.Verdicts.{AreAuditLines}
use Rattle.session.proofs.WindowLaws.{lines_in}
use Rattle.example_hours.proofs.audit.is_audit.Goals as goal

pub first_window-requires-clause-lines : goal.first_window-requires-clause-lines
first_window-requires-clause-lines c =
    let cfg = c.args.config.now in
    let s = c.args.store.now in
    let is = c.requires.agrees in
    let lines = c.deref-3.result.now in
    let past : ArePastsAt (log_of cfg.specs s) c.args.hour c.pasts-before.result.now = rw c.pasts-before.ensures is.is_before.pasts in
    let are : AreAuditLines cfg s c.args.hour lines = rw c.deref-3.ensures.value c.in_ok-lines.ensures in
    (c.args.hour, lines_in cfg s c.args.hour is.has_hour.within lines c.requires.sound are, past)
