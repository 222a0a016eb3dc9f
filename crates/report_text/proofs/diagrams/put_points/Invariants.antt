use Rattle.std.proofs.Common.{drop, flat_map}
use Rattle.outside.proofs.PutsFacts.{Going}
use Rattle.report_text.specs.Approaches.{point_line}
use Rattle.report_text.proofs.diagrams.put_points.Given as goal

-- the lines of the points so far were written
abbrev pub invariant-loop-point : goal.invariant-loop-point
invariant-loop-point g l =
    Going (g.K.Sink.taken l.fn.sink) (g.K.Sink.taken l.sink)
    (flat_map (point_line l.config) l.points) (flat_map (point_line l.config) (drop l.point-index l.points))
