use Rattle.detector_state.proofs.Asking.{counted_start, counted_more, counted_all, late_hour}
use Rattle.detector_state.proofs.state_count.tenths_of.Goals as goal

pub loop-one-init : goal.loop-one-init
loop-one-init c = λ e. counted_start c.args.view.now c.args.spec c.args.asked c.args.from c.moves-moves.result.now c.moves-moves.ensures.log c.moves-moves.ensures.moves e

pub loop-one-preserved : goal.loop-one-preserved
loop-one-preserved c = λ e. counted_more c.args.view.now c.args.spec c.args.asked c.args.from c.loop-one.at c.loop-one.count c.range.result c.begin_of.result c.end_of-at.result c.saturating_add-count.result c.moves-moves.result.now c.loop-one.one-index _ e c.loop-one-test.true c.begin_of.ensures c.end_of-at.ensures (c.range.ensures) c.saturating_add-count.ensures (c.loop-one.invariant e)

pub returns : goal.returns
returns c = λ e. counted_all c.args.view.now c.args.spec c.args.asked c.args.from c.loop-one.at c.saturating_add.result c.loop-one.count c.range-2.result c.saturating_add-2.result c.moves-moves.result.now c.loop-one.one-index e c.loop-one-test.false (late_hour c.args.view.now c.args.from c.saturating_add.result c.moves-moves.ensures.log e c.saturating_add.ensures) (c.range-2.ensures) c.saturating_add-2.ensures (c.loop-one.invariant e)
