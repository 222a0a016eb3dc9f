use Rattle.std.proofs.Common.{drop, flat_map}
use Rattle.outside.proofs.PutsFacts.{Going}
use Rattle.report_text.specs.Pairs.{fill_line}
use Rattle.report_text.proofs.pairs.put_fills.Given as goal

-- the lines of the fills so far were written
abbrev pub invariant-loop-fill : goal.invariant-loop-fill
invariant-loop-fill g l =
    Going (g.K.Sink.taken l.fn.sink) (g.K.Sink.taken l.sink)
    (flat_map (fill_line l.window) l.fills) (flat_map (fill_line l.window) (drop l.fill-index l.fills))
