use Rattle.std.proofs.Common.{flat_map}
use Rattle.outside.proofs.PutsFacts.{going-end, going-on, going-stopped}
use Rattle.report_text.specs.Pairs.{pair_text}
use Rattle.report_text.proofs.ApproachLines.{point_here, points_end}
use Rattle.report_text.proofs.undecided.put_each.Goals as goal

pub put_pair-requires-clause-pair : goal.put_pair-requires-clause-pair
put_pair-requires-clause-pair g c = rw c.pair-item.is (c.requires.pairs c.loop-pair.pair-index c.pair-item.result c.loop-pair-test.true)

pub returns-in_err-put_pair : goal.returns-in_err-put_pair
returns-in_err-put_pair g c =
    let text = pair_text c.args.config.now c.args.line.now.rule c.args.line.now.at in
    let next = point_here text c.args.pairs.now c.loop-pair.pair-index c.pair-item.result c.loop-pair-test.true c.pair-item.is in
    going-stopped _ _ _ (flat_map text c.args.pairs.now) _ _ _ c.from_residual.ensures.0 (rw next at c.loop-pair.invariant) c.in_err-put_pair.ensures

pub loop-pair-preserved : goal.loop-pair-preserved
loop-pair-preserved g c =
    let text = pair_text c.args.config.now c.args.line.now.rule c.args.line.now.at in
    let next = point_here text c.args.pairs.now c.loop-pair.pair-index c.pair-item.result c.loop-pair-test.true c.pair-item.is in
    going-on _ _ _ (flat_map text c.args.pairs.now) _ _ (rw next at c.loop-pair.invariant) c.in_ok-put_pair.ensures

pub returns : goal.returns
returns g c =
    let text = pair_text c.args.config.now c.args.line.now.rule c.args.line.now.at in
    going-end _ _ (flat_map text c.args.pairs.now) (rw (points_end text c.args.pairs.now c.loop-pair.pair-index c.loop-pair-test.false) at c.loop-pair.invariant)
