use Rattle.std.proofs.Common.{arith}
use Rattle.board.specs.Verdicts.{MayPass}
use Rattle.detector_state.specs.States.{AllHave}
use Rattle.detector_state.proofs.Asking.{open_more, open_not, open_all}
use Rattle.detector_state.proofs.state_asked.is_open.Goals as goal

pub returns-then-has_in_all : goal.returns-then-has_in_all
returns-then-has_in_all c = λ known. open_not (λ k. AllHave (MayPass c.args.view.now c.args.at c.args.spec) k) c.loop-colour.colour c.args.colours c.has_in_all.result (c.has_in_all.ensures known) c.if-has_in_all.true (omega arith)

pub loop-colour-preserved : goal.loop-colour-preserved
loop-colour-preserved c = λ known. open_more (λ k. AllHave (MayPass c.args.view.now c.args.at c.args.spec) k) c.loop-colour.colour c.has_in_all.result (c.has_in_all.ensures known) c.if-has_in_all.false (c.loop-colour.invariant known)

pub returns : goal.returns
returns c = λ known. open_all (λ k. AllHave (MayPass c.args.view.now c.args.at c.args.spec) k) c.loop-colour.colour c.args.colours (omega arith) (c.loop-colour.invariant known)
