use Rattle.std.proofs.Common.{take, get_or}
use Rattle.std.proofs.lemmas.List.{take_more}
use Rattle.row_reader.specs.Last.{no_row}
use Rattle.row_reader.proofs.NotedFacts.{all-more}
use Rattle.row_reader.proofs.lasts.Lasts.note_all.Goals as goal

pub loop-row-preserved : goal.loop-row-preserved
loop-row-preserved c =
    rw (take_more c.args.rows.now c.loop-row.row-index no_row c.loop-row-test.true)
    (all-more (take c.loop-row.row-index c.args.rows.now) (get_or c.args.rows.now c.loop-row.row-index no_row) _ _ _ c.loop-row.invariant c.in_ok-note.ensures.with)
