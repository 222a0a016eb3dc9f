use Rattle.std.proofs.Common.{drop}
use Rattle.outside.proofs.PutsFacts.{Going}
use Rattle.report_text.specs.Audit.{lines_text}
use Rattle.report_text.proofs.verdicts.put_each.Given as goal

-- the lines so far were written
abbrev pub invariant-loop-line : goal.invariant-loop-line
invariant-loop-line g l =
    Going (g.K.Sink.taken l.fn.sink) (g.K.Sink.taken l.sink)
    (lines_text l.config.window l.lines) (lines_text l.config.window (drop l.line-index l.lines))
