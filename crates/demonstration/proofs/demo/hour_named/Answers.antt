use Rattle.std.proofs.Common.{sym, ◌∙◌}
use Rattle.demonstration.proofs.TextFacts.{named-done, named-here, named-later}
use Rattle.demonstration.proofs.demo.hour_named.Goals as goal

pub returns-then-eq-clause-value : goal.returns-then-eq-clause-value
returns-then-eq-clause-value c =
    named-here c.args.hours c.loop-hour.hour c.format.result.now c.args.name.now c.loop-hour-test.true c.format.ensures.text (sym c.eq.ensures ∙ c.if-eq.true) c.loop-hour.invariant

pub loop-hour-preserved : goal.loop-hour-preserved
loop-hour-preserved c =
    named-later c.args.hours c.loop-hour.hour c.format.result.now c.args.name.now c.loop-hour-test.true c.format.ensures.text (sym c.eq.ensures ∙ c.if-eq.false) c.loop-hour.invariant

pub returns-clause-value : goal.returns-clause-value
returns-clause-value c = sym (c.loop-hour.invariant ∙ named-done c.args.hours c.loop-hour.hour c.args.name.now c.loop-hour-test.false)
