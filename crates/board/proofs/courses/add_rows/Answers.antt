use Rattle.std.proofs.Common.{rules, arith, ◌≡◌, length, get_or}
use Rattle.board.proofs.Adding.{row_turn, rows_done}
use Rattle.board.specs.Logs.{no_row}
use Rattle.board.proofs.courses.add_rows.Goals as goal
use Rattle.board.specs.Channels.{track}

pub loop-row-preserved : goal.loop-row-preserved
loop-row-preserved c =
    let inv = c.loop-row.invariant in
    let len : length c.loop-row.courses ≡ length c.args.specs.now = search rules in
    (c.in_ok-add_row.ensures.finder, omega arith, λ i d lt. row_turn (track (get_or c.args.specs.now i d)) c.args.rows.now c.loop-row.row-index c.loop-row.number no_row (get_or c.loop-row.courses i _) (get_or c.add_row.new.courses i _) _ c.loop-row-test.true (inv.2 i d lt) ((c.in_ok-add_row.ensures.added d).1 i (omega arith)))

pub returns-clause-added : goal.returns-clause-added
returns-clause-added c =
    let inv = c.loop-row.invariant in
    let len : length c.loop-row.courses ≡ length c.args.courses.now = search rules in
    let same = c.requires.same in
    λ d. (len, λ i lt. rows_done (track (get_or c.args.specs.now i d)) c.args.rows.now c.loop-row.row-index c.loop-row.number (get_or c.loop-row.courses i _) _ (omega arith) (inv.2 i d (omega arith)))
