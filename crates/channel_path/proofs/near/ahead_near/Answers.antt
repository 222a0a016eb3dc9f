use Rattle.std.proofs.Common.{arith}
use Rattle.channel_path.proofs.Telling.{near_answers}
use Rattle.channel_path.proofs.near.ahead_near.Goals as goal

pub returns-clause-before : goal.returns-clause-before
returns-clause-before g c =
    let k = rw c.in-Some.is at c.in_ok-one.ensures in
    let either = c.ahead_agreed.ensures in
    near_answers (g.M.Machine.rules c.args.machine.now) c.args.before.now c.args.moves.now c.min-near.result c.in-Some.one c.ahead_agreed.result (omega arith) (omega arith) k.single k.after either.most either.least
