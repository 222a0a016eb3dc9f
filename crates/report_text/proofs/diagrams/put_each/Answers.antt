use Rattle.outside.proofs.PutsFacts.{going-end, going-on, going-stopped}
use Rattle.report_text.specs.Approaches.{diagram_text, diagrams_text}
use Rattle.report_text.proofs.ApproachLines.{point_here, points_end}
use Rattle.report_text.proofs.diagrams.put_each.Goals as goal

pub returns-in_err-put_diagram : goal.returns-in_err-put_diagram
returns-in_err-put_diagram g c =
    let text = diagram_text c.args.config.now in
    let next = point_here text c.args.diagrams.now c.loop-diagram.diagram-index c.diagram-item.result c.loop-diagram-test.true c.diagram-item.is in
    going-stopped _ _ _ (diagrams_text c.args.config.now c.args.diagrams.now) (text c.diagram-item.result) _ _
    c.from_residual.ensures.0 (rw next at c.loop-diagram.invariant) c.in_err-put_diagram.ensures

pub loop-diagram-preserved : goal.loop-diagram-preserved
loop-diagram-preserved g c =
    let text = diagram_text c.args.config.now in
    let next = point_here text c.args.diagrams.now c.loop-diagram.diagram-index c.diagram-item.result c.loop-diagram-test.true c.diagram-item.is in
    going-on _ _ _ (diagrams_text c.args.config.now c.args.diagrams.now) (text c.diagram-item.result) _ (rw next at c.loop-diagram.invariant) c.in_ok-put_diagram.ensures

pub returns : goal.returns
returns g c =
    going-end _ _ (diagrams_text c.args.config.now c.args.diagrams.now)
    (rw (points_end (diagram_text c.args.config.now) c.args.diagrams.now c.loop-diagram.diagram-index c.loop-diagram-test.false) at c.loop-diagram.invariant)
