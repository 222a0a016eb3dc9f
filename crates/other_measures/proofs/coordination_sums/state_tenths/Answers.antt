use Rattle.std.proofs.Common.{arith, ◌∙◌}
use Rattle.std.proofs.lemmas.List.{length-set}
use Rattle.other_measures.specs.States.{MetBy}
use Rattle.other_measures.proofs.Seeing.{tenths_more}
use Rattle.other_measures.proofs.coordination_sums.state_tenths.Goals as goal

pub loop-state-preserved : goal.loop-state-preserved
loop-state-preserved c = record {
  len = length-set c.loop-state.all c.from.result c.tenths.result ∙ c.loop-state.invariant.len;
  tenths = λ log first is. rw c.from.ensures (tenths_more (MetBy log) first c.args.config.now c.loop-state.all c.loop-state.state c.tenths.result c.loop-state.invariant.len c.loop-state-test.true (c.tenths.ensures log first is) (c.loop-state.invariant.tenths log first is));
}

pub returns-clause-size : goal.returns-clause-size
returns-clause-size c = c.loop-state.invariant.len

pub returns-clause-tenths : goal.returns-clause-tenths
returns-clause-tenths c = λ log first is q lt. c.loop-state.invariant.tenths log first is q (omega (arith, c.loop-state-test.false))
