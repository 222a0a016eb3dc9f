use Rattle.outside.proofs.PutsFacts.{Going}
use Rattle.report_text.specs.Measures.{each_line, numbers_from, numbers_of}
use Rattle.report_text.proofs.lines.put_lines.Given as goal

-- the lines of the numbers so far were written
abbrev pub invariant-loop-number : goal.invariant-loop-number
invariant-loop-number g l =
    Going (g.K.Sink.taken l.fn.sink) (g.K.Sink.taken l.sink)
    (each_line g.T.Numbered.line (numbers_of (g.T.Numbered.has l.config)) l.sums)
    (each_line g.T.Numbered.line (numbers_from (g.T.Numbered.has l.config) l.number) l.rest)
