use Rattle.std.proofs.Common.{arith}
use Rattle.colour_machine.proofs.Ways.{added_more, added_all}
use Rattle.colour_machine.proofs.after.after_one.Goals as goal

pub loop-colour-preserved : goal.loop-colour-preserved
loop-colour-preserved g c = λ d. added_more (g.M.Machine.rules c.args.machine.now) c.loop-colour.colour c.args.from c.args.reached c.loop-colour.next c.with_changes_if-next.result d (c.loop-colour.invariant d) (c.with_changes_if-next.ensures d)

pub returns : goal.returns
returns g c = λ d. added_all (g.M.Machine.rules c.args.machine.now) c.loop-colour.colour c.args.from c.args.reached c.loop-colour.next d (let e = c.colours-colour-end.ensures in omega arith) (c.loop-colour.invariant d)
