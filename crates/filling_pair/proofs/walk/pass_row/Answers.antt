use Rattle.filling_pair.specs.Walking.{track_of}
use Rattle.filling_pair.proofs.Passing.{row_passed}
use Rattle.filling_pair.proofs.walk.pass_row.Goals as goal

pub returns-clause-passed : goal.returns-clause-passed
returns-clause-passed c =
    let at_row = c.pass_fills-at_row in
    row_passed (track_of c.args.follower.now) c.args.cursor.now.here at_row.result.here c.moved.result c.args.cursor.now.fills.now at_row.result.fills.now c.args.row at_row.ensures.rest at_row.ensures.walked c.moved.ensures.moved
