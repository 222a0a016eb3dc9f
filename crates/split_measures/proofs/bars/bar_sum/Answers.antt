use Rattle.split_measures.specs.Verdicts.{verdicts_by}
use Rattle.split_measures.proofs.Opening.{both_are}
use Rattle.split_measures.proofs.bars.bar_sum.Goals as goal

pub returns : goal.returns
returns c = λ ss e. both_are (verdicts_by c.args.high.now c.args.windows.now) ss c.verdict_sum.result c.opens.result c.sum.result c.verdict_sum.ensures (c.opens.ensures ss e) c.sum.ensures
