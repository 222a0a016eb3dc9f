use Rattle.std.proofs.Common.{arith}
use Rattle.gap_ways.specs.Choices.{IsAnswer}
use Rattle.gap_ways.proofs.Asking.{none_more, none_all}
use Rattle.gap_ways.proofs.choose.possible_state.Goals as goal

pub loop-colour-preserved : goal.loop-colour-preserved
loop-colour-preserved g c = none_more (IsAnswer c.args.past.now c.args.ahead.now c.args.met c.args.test.now) c.loop-colour.colour c.loop-colour.invariant (rw c.in_default.is at c.in_ok-entry.ensures)

pub returns : goal.returns
returns g c = let t = c.loop-colour-test.false in let n = c.colours-colour-end.ensures in none_all c.args.past.now c.args.ahead.now c.args.met c.args.test.now c.loop-colour.colour (g.M.Machine.rules c.args.machine.now).colours c.requires.colours (omega arith) c.loop-colour.invariant
