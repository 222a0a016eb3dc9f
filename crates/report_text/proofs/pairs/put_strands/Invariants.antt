use Rattle.std.proofs.Common.{drop}
use Rattle.outside.proofs.PutsFacts.{Going}
use Rattle.report_text.specs.Pairs.{strands_text}
use Rattle.report_text.proofs.pairs.put_strands.Given as goal

-- the strands so far were written
abbrev pub invariant-loop-strand : goal.invariant-loop-strand
invariant-loop-strand g l =
    Going (g.K.Sink.taken l.fn.sink) (g.K.Sink.taken l.sink)
    (strands_text l.config l.strands) (strands_text l.config (drop l.strand-index l.strands))
