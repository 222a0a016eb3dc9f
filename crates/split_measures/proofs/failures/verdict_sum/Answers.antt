use Rattle.std.proofs.Common.{◌∙◌, ap, arith, List, take_all}
use Rattle.stop_bar.specs.declared.windows.Windows.{Windows}
use Rattle.split_measures.specs.Failures.{split_sum_of}
use Rattle.split_measures.specs.Verdicts.{verdicts_by}
use Rattle.split_measures.proofs.Failing.{verdict_more}
use Rattle.split_measures.proofs.failures.verdict_sum.Goals as goal

pub loop-one-preserved : goal.loop-one-preserved
loop-one-preserved c = verdict_more c.args.high.now c.args.windows.now c.loop-one.one-index _ c.windows_verdict.result c.loop-one.sum c.of_verdict.result c.sum-sum.result c.loop-one-test.true c.windows_verdict.ensures c.of_verdict.ensures c.sum-sum.ensures c.loop-one.invariant

pub returns : goal.returns
returns c = c.loop-one.invariant ∙ ap (λ (x : List Windows). split_sum_of (verdicts_by c.args.high.now x)) (take_all c.loop-one.one-index c.args.windows.now (omega arith))
