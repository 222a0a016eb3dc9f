use Rattle.std.proofs.Common.{flat_map}
use Rattle.outside.proofs.PutsFacts.{front-stopped, puts-then}
use Rattle.report_text.specs.Approaches.{cycle_line, point_line}
use Rattle.report_text.proofs.diagrams.put_diagram.Goals as goal

pub returns-in_err-put_cycle : goal.returns-in_err-put_cycle
returns-in_err-put_cycle g c =
    let s = c.args.config.now in
    let d = c.args.diagram.now in
    front-stopped _ _ (cycle_line s.window d.cycle) (flat_map (point_line s) d.points) _ c.from_residual.ensures.0 (rw (c.window.ensures) at c.in_err-put_cycle.ensures)

pub returns : goal.returns
returns g c =
    let s = c.args.config.now in
    let d = c.args.diagram.now in
    puts-then _ _ _ (cycle_line s.window d.cycle) (flat_map (point_line s) d.points) c.put_points.result (rw (c.window.ensures) at c.in_ok-put_cycle.ensures) (rw (c.list.ensures) at c.put_points.ensures)
