use Rattle.outside.proofs.PutsFacts.{going-end, going-on, going-stopped}
use Rattle.report_text.specs.Pairs.{strand_text, strands_text}
use Rattle.report_text.proofs.ApproachLines.{point_here, points_end}
use Rattle.report_text.proofs.pairs.put_strands.Goals as goal

pub returns-in_err-put_strand : goal.returns-in_err-put_strand
returns-in_err-put_strand g c =
    let next = point_here (strand_text c.args.config.now) c.args.strands.now c.loop-strand.strand-index c.strand-item.result c.loop-strand-test.true c.strand-item.is in
    going-stopped _ _ _ (strands_text c.args.config.now c.args.strands.now) _ _ _ c.from_residual.ensures.0 (rw next at c.loop-strand.invariant) c.in_err-put_strand.ensures

pub loop-strand-preserved : goal.loop-strand-preserved
loop-strand-preserved g c =
    let next = point_here (strand_text c.args.config.now) c.args.strands.now c.loop-strand.strand-index c.strand-item.result c.loop-strand-test.true c.strand-item.is in
    going-on _ _ _ (strands_text c.args.config.now c.args.strands.now) _ _ (rw next at c.loop-strand.invariant) c.in_ok-put_strand.ensures

pub returns : goal.returns
returns g c =
    going-end _ _ (strands_text c.args.config.now c.args.strands.now) (rw (points_end (strand_text c.args.config.now) c.args.strands.now c.loop-strand.strand-index c.loop-strand-test.false) at c.loop-strand.invariant)
