use Rattle.std.proofs.Common.{drop}
use Rattle.outside.proofs.PutsFacts.{Going}
use Rattle.report_text.specs.Approaches.{diagrams_text}
use Rattle.report_text.proofs.diagrams.put_each.Given as goal

-- the diagrams so far were written
abbrev pub invariant-loop-diagram : goal.invariant-loop-diagram
invariant-loop-diagram g l =
    Going (g.K.Sink.taken l.fn.sink) (g.K.Sink.taken l.sink)
    (diagrams_text l.config l.diagrams) (diagrams_text l.config (drop l.diagram-index l.diagrams))
