use Rattle.std.proofs.Common.{flat_map}
use Rattle.outside.proofs.PutsFacts.{going-end, going-on, going-stopped}
use Rattle.arrival_measures.specs.declared.points.Point.{Point}
use Rattle.report_text.specs.Approaches.{point_line}
use Rattle.report_text.proofs.ApproachLines.{points_end, points_next}
use Rattle.report_text.proofs.diagrams.put_points.Goals as goal

pub returns-in_err-put_point : goal.returns-in_err-put_point
returns-in_err-put_point g c =
    let line = point_line c.args.config.now in
    let none : Point = record { approach = 0; offset = 0 } in
    let next = points_next line c.args.points.now c.loop-point.point-index none c.loop-point-test.true in
    going-stopped _ _ _ (flat_map line c.args.points.now) _ _ _ c.from_residual.ensures.0 (rw next at c.loop-point.invariant) c.in_err-put_point.ensures

pub loop-point-preserved : goal.loop-point-preserved
loop-point-preserved g c =
    let line = point_line c.args.config.now in
    let none : Point = record { approach = 0; offset = 0 } in
    let next = points_next line c.args.points.now c.loop-point.point-index none c.loop-point-test.true in
    going-on _ _ _ (flat_map line c.args.points.now) _ _ (rw next at c.loop-point.invariant) c.in_ok-put_point.ensures

pub returns : goal.returns
returns g c =
    let line = point_line c.args.config.now in
    going-end _ _ (flat_map line c.args.points.now) (rw (points_end line c.args.points.now c.loop-point.point-index c.loop-point-test.false) at c.loop-point.invariant)
