use Rattle.std.proofs.Common.{drop}
use Rattle.outside.proofs.PutsFacts.{Going}
use Rattle.report_text.specs.Shifts.{shift_lines}
use Rattle.report_text.proofs.shifts.put_each.Given as goal

-- the lines of the shifts so far were written
abbrev pub invariant-loop-shift : goal.invariant-loop-shift
invariant-loop-shift g l =
    Going (g.K.Sink.taken l.fn.sink) (g.K.Sink.taken l.sink)
    (shift_lines 0 l.counts) (shift_lines l.shift (drop l.shift l.counts))
