use Rattle.std.proofs.Common.{sym}
use Rattle.channel_tables.specs.Any.{any_rules}
use Rattle.filling_pair.specs.Walking.{letter_on}
use Rattle.filling_pair.proofs.Stepping.{one_moves}
use Rattle.filling_pair.proofs.step.move_on.Goals as goal

pub returns-in-Some : goal.returns-in-Some
returns-in-Some c =
    let m = any_rules c.args.follower.now.machine in
    let row = c.args.row in
    one_moves m row.at c.in-Some.letter c.args.here (letter_on c.args.follower.now.channel row.code row.param) c.step_at.result (sym c.in-Some.ensures) c.step_at.ensures
