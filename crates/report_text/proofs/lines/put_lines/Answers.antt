use Rattle.std.proofs.Common.{sym}
use Rattle.outside.proofs.PutsFacts.{going-end, going-on, going-stopped}
use Rattle.report_text.specs.Measures.{each_line, numbers_from, numbers_of}
use Rattle.report_text.proofs.NumberLines.{lines_end, lines_next, lines_out, lines_skip}
use Rattle.report_text.proofs.lines.put_lines.Goals as goal

pub loop-number-preserved-then-not-is_configured : goal.loop-number-preserved-then-not-is_configured
loop-number-preserved-then-not-is_configured g c =
    let has = g.T.Numbered.has c.args.config.now in
    let n = c.loop-number.number in
    rw (lines_skip g.T.Numbered.line has n c.loop-number.rest.now c.loop-number-test.true (sym c.if-not-is_configured.ensures)) at c.loop-number.invariant

pub returns-in_default : goal.returns-in_default
returns-in_default g c =
    let has = g.T.Numbered.has c.args.config.now in
    let n = c.loop-number.number in
    going-end _ _ (each_line g.T.Numbered.line (numbers_of has) c.args.sums.now) (rw (lines_out g.T.Numbered.line (numbers_from has n) c.loop-number.rest.now c.in_default.ensures.cases) at c.loop-number.invariant)

pub returns-in_err-put_line : goal.returns-in_err-put_line
returns-in_err-put_line g c =
    let has = g.T.Numbered.has c.args.config.now in
    let n = c.loop-number.number in
    let next = lines_next g.T.Numbered.line has n c.in-Some.first.now c.loop-number.rest.now c.in-Some.others.now c.loop-number-test.true (sym c.if-not-is_configured.ensures) c.in-Some.ensures.cases.0 in
    going-stopped _ _ _ (each_line g.T.Numbered.line (numbers_of has) c.args.sums.now) (g.T.Numbered.line n c.in-Some.first.now) _ _ c.from_residual.ensures.0 (rw next at c.loop-number.invariant) c.in_err-put_line.ensures

pub loop-number-preserved : goal.loop-number-preserved
loop-number-preserved g c =
    let has = g.T.Numbered.has c.args.config.now in
    let n = c.loop-number.number in
    let next = lines_next g.T.Numbered.line has n c.in-Some.first.now c.loop-number.rest.now c.in-Some.others.now c.loop-number-test.true (sym c.if-not-is_configured.ensures) c.in-Some.ensures.cases.0 in
    going-on _ _ _ (each_line g.T.Numbered.line (numbers_of has) c.args.sums.now) (g.T.Numbered.line n c.in-Some.first.now) _ (rw next at c.loop-number.invariant) c.in_ok-put_line.ensures

pub returns : goal.returns
returns g c =
    let has = g.T.Numbered.has c.args.config.now in
    going-end _ _ (each_line g.T.Numbered.line (numbers_of has) c.args.sums.now) (rw (lines_end g.T.Numbered.line has c.loop-number.number c.loop-number.rest.now c.loop-number-test.false) at c.loop-number.invariant)
