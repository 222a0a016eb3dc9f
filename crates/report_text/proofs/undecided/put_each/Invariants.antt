use Rattle.std.proofs.Common.{drop, flat_map}
use Rattle.outside.proofs.PutsFacts.{Going}
use Rattle.report_text.specs.Pairs.{pair_text}
use Rattle.report_text.proofs.undecided.put_each.Given as goal

-- the pairs so far were written
abbrev pub invariant-loop-pair : goal.invariant-loop-pair
invariant-loop-pair g l =
    Going (g.K.Sink.taken l.fn.sink) (g.K.Sink.taken l.sink)
    (flat_map (pair_text l.config l.line.rule l.line.at) l.pairs) (flat_map (pair_text l.config l.line.rule l.line.at) (drop l.pair-index l.pairs))
