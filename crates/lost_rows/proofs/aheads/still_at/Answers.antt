use Rattle.std.proofs.Common.{arith}
use Rattle.lost_rows.proofs.Credits.{end_past}
use Rattle.lost_rows.proofs.aheads.still_at.Goals as goal

pub returns-clause-to : goal.returns-clause-to
returns-clause-to c = end_past c.args.moves.now c.args.place c.args.to _ (let t = c.if-place-moves.false in omega arith) c.still_up_to.ensures.to
