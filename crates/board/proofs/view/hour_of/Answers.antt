use Rattle.std.proofs.Common.{arith}
use Rattle.board.specs.Logs.{end_tenth, first_tenth}
use Rattle.board.proofs.view.hour_of.Goals as goal

pub returns : goal.returns
returns c = λ h follow.
    let first = c.first_of.ensures (first_tenth h) (end_tenth h) follow (omega arith) in
    omega arith
