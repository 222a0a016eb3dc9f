use Rattle.std.proofs.Common.{◌-◌}
use Rattle.outside.proofs.PutsFacts.{Going}
use Rattle.report_text.specs.Counts.{count_text, code_lines}
use Rattle.report_text.proofs.counts.put_counts.Given as goal

abbrev pub invariant-loop-code : goal.invariant-loop-code
invariant-loop-code g l =
    Going (g.K.Sink.taken l.fn.sink) (g.K.Sink.taken l.sink)
    (count_text l.rows l.repeats) (code_lines l.rows (256 - l.code) l.code)
