use Rattle.std.proofs.Common.{arith, pos, ◌≡◌, true, false}
use Rattle.lost_rows.specs.Decisions.{KeepsRule}
use Rattle.lost_rows.proofs.Deciding.{pass_more}
use Rattle.lost_rows.proofs.decision.passes_with.Goals as goal

pub loop-before-preserved : goal.loop-before-preserved
loop-before-preserved c = pass_more (KeepsRule c.args.rule.now (pos c.args.at)) c.args.pasts.now c.args.aheads.now c.args.lost c.loop-before.before c.with.result.now c.with-in-loop-before.result.now c.passes.result (let t = c.loop-before-test.true in omega arith) c.with.ensures c.with-in-loop-before.ensures c.passes.ensures c.if-passes.false c.loop-before.invariant

pub returns : goal.returns
returns c = (
  λ t. let bad : false ≡ true = t in cc,
  λ (i, k, e, x). absurd (c.loop-before.invariant i k e (let t = c.loop-before-test.false in omega arith) x),
)
