use Rattle.std.proofs.Common.{drop}
use Rattle.outside.proofs.PutsFacts.{Going}
use Rattle.report_text.specs.Approaches.{approaches_text}
use Rattle.report_text.proofs.approaches.put_approaches.Given as goal

-- the lines of the approaches so far were written
abbrev pub invariant-loop-place : goal.invariant-loop-place
invariant-loop-place g l =
    Going (g.K.Sink.taken l.fn.sink) (g.K.Sink.taken l.sink)
    (approaches_text l.config.approaches l.sums l.splits) (approaches_text (drop l.place l.config.approaches) (drop l.place l.sums) (drop l.place l.splits))
