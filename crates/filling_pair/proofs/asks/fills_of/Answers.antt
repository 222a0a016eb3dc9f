use Rattle.std.proofs.Common.{refl}
use Rattle.board.specs.Logs.{no_row}
use Rattle.filling_pair.proofs.Replying.{fills_more}
use Rattle.filling_pair.proofs.asks.fills_of.Goals as goal

pub loop-row-preserved : goal.loop-row-preserved
loop-row-preserved c =
    let lt = c.loop-row-test.true in
    fills_more c.args.rows.now c.loop-row.row-index no_row c.loop-row.fills c.push.new.self _ lt refl c.in_ok-push.ensures.ok c.loop-row.invariant
