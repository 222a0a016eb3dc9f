use Rattle.std.proofs.Common.{◌≡◌, ◌+◌, sym, ◌∙◌, arith}
use Rattle.row_reader.proofs.NotedFacts.{knows-again, knows-noted}
use Rattle.row_reader.proofs.RepeatFacts.{repeat-told}
use Rattle.row_reader.proofs.noted.Noted.note_new.Goals as goal

pub returns-then-has-clause-repeat : goal.returns-then-has-clause-repeat
returns-then-has-clause-repeat c =
    let until : c.args.row.at + 1 ≡ c.args.self.now.until = c.has.ensures.0 c.if-has.true in
    repeat-told c.args.kept.now c.args.row _ _ (c.requires.noted.1 c.args.row.at (omega (arith, until)) (rw (← until) c.requires.rise))
    c.in_ok-repeats.ensures.was

pub returns-then-has-clause-dropped : goal.returns-then-has-clause-dropped
returns-then-has-clause-dropped c e =
    knows-again c.args.self.now.until _ _ c.args.kept.now c.args.row c.requires.noted c.in_ok-repeats.ensures.with (sym c.in_ok-repeats.ensures.was ∙ e)

pub returns-then-has-clause-kept : goal.returns-then-has-clause-kept
returns-then-has-clause-kept c e =
    knows-noted c.args.self.now.until _ _ c.args.kept.now c.args.row (c.has.ensures.0 c.if-has.true) c.requires.noted c.in_ok-repeats.ensures.with
