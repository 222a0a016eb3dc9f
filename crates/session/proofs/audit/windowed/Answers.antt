use Rattle.std.proofs.Common.{sym, subst, get_or, ℕ}
use Rattle.signal_log.specs.Log.{log_of}
use Rattle.rule_audit.specs.Rules.{rules_for}
use Rattle.signal_log.specs.Rows.{hour_rows}
use Rattle.decisive.specs.Lines.{AreHourMoves}
use Rattle.session.specs.HourLines.{IsLineIn}
use Rattle.session.proofs.GrowLaws.{grow_on, grow_same}
use Rattle.session.proofs.WindowLaws.{no_line, none_yet, windows_turn}
use Rattle.session.proofs.audit.windowed.Goals as goal

pub loop-line-init : goal.loop-line-init
loop-line-init g c = record {
  windows = λ before hour are. none_yet (log_of c.args.config.now.specs c.args.store.now) (rules_for c.args.config.now) (hour_rows c.args.store.now hour) c.new-done.result.items c.new-done.ensures.items;
  grow = grow_same c.args.reads.now;
}

pub returns-in_err-window-clause-grow : goal.returns-in_err-window-clause-grow
returns-in_err-window-clause-grow g c = grow_on _ _ _ c.loop-line.invariant.grow c.window_of.ensures.grow

pub returns-in_err-push-clause-grow : goal.returns-in_err-push-clause-grow
returns-in_err-push-clause-grow g c = grow_on _ _ _ c.loop-line.invariant.grow c.window_of.ensures.grow

pub loop-line-preserved : goal.loop-line-preserved
loop-line-preserved g c = record {
  windows = λ before. windows_turn c.args.config.now c.args.store.now before c.args.lines.now c.loop-line.line-index c.loop-line.done.items c.push.new.self.items c.in_ok-window.window c.loop-line-test.true (c.loop-line.invariant.windows before) c.in_ok-window.ensures.window c.in_ok-push.ensures.items;
  grow = grow_on _ _ _ c.loop-line.invariant.grow c.window_of.ensures.grow;
}

pub window_of-requires-clause-line : goal.window_of-requires-clause-line
window_of-requires-clause-line g c =
    let (hour, moves, each) = c.requires.lines in
    let mine = each c.loop-line.line-index no_line c.loop-line-test.true in
    subst (λ (h : ℕ). IsLineIn c.args.config.now c.args.store.now h (get_or c.args.lines.now c.loop-line.line-index no_line)) (sym mine.in_hour) mine

pub window_of-requires-clause-moves : goal.window_of-requires-clause-moves
window_of-requires-clause-moves g c =
    let (hour, moves, each) = c.requires.lines in
    let mine = each c.loop-line.line-index no_line c.loop-line-test.true in
    subst (λ (h : ℕ). AreHourMoves c.args.config.now.specs c.args.store.now h c.args.moves.now) (sym mine.in_hour) moves
