use Rattle.std.proofs.Common.{ℕ, get_or, subst, sym}
use Rattle.signal_log.specs.Log.{log_of}
use Rattle.signal_log.specs.Points.{ArePastsAt}
use Rattle.session.specs.HourLines.{IsLineIn}
use Rattle.session.proofs.WindowLaws.{no_line}
use Rattle.example_hours.proofs.audit.first_window.Goals as goal

pub window_of-requires-clause-line : goal.window_of-requires-clause-line
window_of-requires-clause-line c =
    let (hour, each, pasts) = c.requires.lines in
    let mine = each c.loop-line.line-index no_line c.loop-line-test.true in
    subst (λ (h : ℕ). IsLineIn c.args.config.now c.args.store.now h (get_or c.args.lines.now c.loop-line.line-index no_line)) (sym mine.in_hour) mine

pub window_of-requires-clause-before : goal.window_of-requires-clause-before
window_of-requires-clause-before c =
    let (hour, each, pasts) = c.requires.lines in
    let mine = each c.loop-line.line-index no_line c.loop-line-test.true in
    subst (λ (h : ℕ). ArePastsAt (log_of c.args.config.now.specs c.args.store.now) h c.args.before.now) (sym mine.in_hour) pasts
