use Rattle.std.proofs.Common.{drop}
use Rattle.outside.proofs.PutsFacts.{Going}
use Rattle.report_text.specs.Audit.{counts_from, counts_text}
use Rattle.report_text.proofs.audit.put_audit_counts.Given as goal

-- the lines of the rules so far were written
abbrev pub invariant-loop-i : goal.invariant-loop-i
invariant-loop-i g l =
    Going (g.K.Sink.taken l.fn.sink) (g.K.Sink.taken l.sink)
    (counts_text l.config.specs l.rules l.part.rules) (counts_from l.config.specs l.part.rules l.i (drop l.i l.rules))
