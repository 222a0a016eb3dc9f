use Rattle.std.proofs.Common.{sym, refl, append-nil}
use Rattle.sigaudit.specs.Audit.{failing_at}
use Rattle.report_text.proofs.VerdictLines.{no_line}
use Rattle.sigaudit.proofs.OffsetFacts.{flat_end, flat_next}
use Rattle.sigaudit.proofs.audit.add_lines.Goals as goal

pub loop-line-init : goal.loop-line-init
loop-line-init c = sym (append-nil c.args.failing.now.items)

pub loop-line-preserved : goal.loop-line-preserved
loop-line-preserved c =
    flat_next failing_at c.args.lines.now c.loop-line.line-index no_line c.args.failing.now.items c.loop-line.failing.items c.add_line.new.failing.items
    c.loop-line-test.true c.loop-line.invariant c.in_ok-add_line.ensures

pub returns : goal.returns
returns c =
    flat_end failing_at c.args.lines.now c.args.lines.now c.loop-line.line-index c.args.failing.now.items c.loop-line.failing.items c.loop-line-test.false refl c.loop-line.invariant
