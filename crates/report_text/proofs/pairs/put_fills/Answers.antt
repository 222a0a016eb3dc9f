use Rattle.std.proofs.Common.{flat_map}
use Rattle.outside.proofs.PutsFacts.{going-end, going-on, going-stopped}
use Rattle.filling_pair.specs.Strands.{no_fill}
use Rattle.report_text.specs.Pairs.{fill_line}
use Rattle.report_text.proofs.ApproachLines.{points_end, points_next}
use Rattle.report_text.proofs.pairs.put_fills.Goals as goal

pub returns-in_err-put_fill : goal.returns-in_err-put_fill
returns-in_err-put_fill g c =
    let line = fill_line c.args.window.now in
    let next = points_next line c.args.fills.now c.loop-fill.fill-index no_fill c.loop-fill-test.true in
    going-stopped _ _ _ (flat_map line c.args.fills.now) _ _ _ c.from_residual.ensures.0 (rw next at c.loop-fill.invariant) c.in_err-put_fill.ensures

pub loop-fill-preserved : goal.loop-fill-preserved
loop-fill-preserved g c =
    let line = fill_line c.args.window.now in
    let next = points_next line c.args.fills.now c.loop-fill.fill-index no_fill c.loop-fill-test.true in
    going-on _ _ _ (flat_map line c.args.fills.now) _ _ (rw next at c.loop-fill.invariant) c.in_ok-put_fill.ensures

pub returns : goal.returns
returns g c =
    let line = fill_line c.args.window.now in
    going-end _ _ (flat_map line c.args.fills.now) (rw (points_end line c.args.fills.now c.loop-fill.fill-index c.loop-fill-test.false) at c.loop-fill.invariant)
