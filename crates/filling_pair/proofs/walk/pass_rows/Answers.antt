use Rattle.board.specs.Logs.{no_row}
use Rattle.filling_pair.specs.Walking.{track_of}
use Rattle.filling_pair.proofs.Passing.{rows_end, rows_turn}
use Rattle.filling_pair.proofs.walk.pass_rows.Goals as goal

pub loop-row-preserved : goal.loop-row-preserved
loop-row-preserved c = record {
  fits = c.pass_own-at.ensures.fits;
  passed = rows_turn (track_of c.args.follower.now) c.args.blanked.now c.args.cursor.now.here c.args.cursor.now.fills.now c.args.rows.now c.loop-row.at.here c.loop-row.at.fills.now c.pass_own-at.result.here c.pass_own-at.result.fills.now c.loop-row.row-index no_row c.loop-row-test.true c.loop-row.invariant.passed c.pass_own-at.ensures.passed;
}

pub returns-clause-passed : goal.returns-clause-passed
returns-clause-passed c =
    rows_end (track_of c.args.follower.now) c.args.blanked.now c.args.cursor.now.here c.args.cursor.now.fills.now c.args.rows.now c.loop-row.at.here c.loop-row.at.fills.now c.loop-row.row-index c.loop-row-test.false c.loop-row.invariant.passed
